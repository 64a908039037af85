use Rattle.std.proofs.Common.{◌≡◌, ◌-◌, length, replicate}
use Rattle.reference.proofs.Edging.{Noted}
use Rattle.reference.proofs.window.find_edges.Given as goal

abbrev pub invariant-loop-placed : goal.invariant-loop-placed
invariant-loop-placed l = (l.reader.tape.now ≡ l.tape) × Noted l.close l.tape (replicate 21 (length l.tape)) l.edges l.reader.at l.reader.last

abbrev pub decreases-loop-placed : goal.decreases-loop-placed
decreases-loop-placed l = length l.tape - l.reader.at
