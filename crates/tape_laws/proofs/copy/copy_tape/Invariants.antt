use Rattle.std.proofs.Common.{◌≡◌, ◌-◌, ◌≤◌, length}
use Rattle.tape_laws.proofs.Copies.{Copied}
use Rattle.tape_laws.proofs.copy.copy_tape.Given as goal

abbrev pub invariant-loop-placed : goal.invariant-loop-placed
invariant-loop-placed l =
    (l.initial.writer.buffer.ghost_name ≡ l.writer.buffer.ghost_name) × (l.reader.tape.now ≡ l.tape) × (l.reader.at ≤ length l.tape)
    × Copied l.tape l.initial.writer.buffer.now l.writer.buffer.now l.writer.end l.reader.at l.reader.last

abbrev pub decreases-loop-placed : goal.decreases-loop-placed
decreases-loop-placed l = length l.tape - l.reader.at
