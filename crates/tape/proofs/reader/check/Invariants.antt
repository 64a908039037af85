use Rattle.std.proofs.Common.{◌≡◌, ◌-◌, ◌≤◌, length}
use Rattle.tape.specs.Reading.{count, parse}
use Rattle.tape.proofs.Runs.{Sofar}
use Rattle.tape.proofs.reader.check.Given as goal

abbrev pub invariant-loop-records : goal.invariant-loop-records
invariant-loop-records l =
    (l.reader.tape.now ≡ l.tape) × (l.records ≤ l.reader.at) × (l.reader.at ≤ length l.tape)
    × Sofar count (count 0 (parse l.tape)) l.tape l.records l.reader.at l.reader.last

abbrev pub decreases-loop-records : goal.decreases-loop-records
decreases-loop-records l = length l.tape - l.reader.at
