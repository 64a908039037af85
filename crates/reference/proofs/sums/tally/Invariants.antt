use Rattle.std.proofs.Common.{◌≡◌, ◌-◌, length}
use Rattle.reference.proofs.Tallying.{Tallied}
use Rattle.reference.proofs.sums.tally.Given as goal

abbrev pub invariant-loop-placed : goal.invariant-loop-placed
invariant-loop-placed l = (l.reader.tape.now ≡ l.part) × Tallied l.symbol l.part l.tallies l.reader.at l.reader.last

abbrev pub decreases-loop-placed : goal.decreases-loop-placed
decreases-loop-placed l = length l.part - l.reader.at
