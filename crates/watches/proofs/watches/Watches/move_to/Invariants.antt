use Rattle.std.proofs.Common.{◌≡◌, ◌≤◌}
use Rattle.watches.specs.Moving.{advanced}
use Rattle.watches.proofs.Steps.{left}
use Rattle.watches.proofs.watches.Watches.move_to.Given as goal

-- the rest of the way leads where the whole way did
abbrev pub invariant-loop-moment : goal.invariant-loop-moment
invariant-loop-moment l = (l.self.state.clock ≤ l.time) × (advanced l.self.state l.time ≡ advanced l.initial.self.state l.time)

abbrev pub decreases-loop-moment : goal.decreases-loop-moment
decreases-loop-moment l = left l.self.state
