-- A day moved to any later time at once, whatever ends on the way.
use Rattle.std.specs.Prelude.{◌≡◌, ℕ, ◌+◌, ◌≤◌, true, cond, None, Option, nat_le}
use Rattle.watches.specs.declared.state.Side.{Side}
use Rattle.watches.specs.declared.state.Watch.{Watch}
use Rattle.watches.specs.declared.state.Watch.TheVariants.{Idle, Running}
use Rattle.watches.specs.declared.state.Phase.{Phase}
use Rattle.watches.specs.declared.state.Phase.TheVariants.{Halted}
use Rattle.watches.specs.declared.state.State.{State}
use Rattle.watches.specs.Words.{span, timely}
use Rattle.watches.specs.Ends.{over, risen, reopened, watched, passed, passable}

-- The phase at t, where w is the watch of the side whose mark stands.
abbrev pub phase_at : ℕ → Watch → Phase → Phase
phase_at t Idle p = reopened t p
phase_at t (Running e) p = reopened t (cond (nat_le e t) (Halted (e + span)) p)

abbrev pub standing_at : ℕ → Watch → Option Side → Option Side
standing_at t w s = cond (over t w) None s

-- The day at t, which is not before its clock.
abbrev pub advanced : State → ℕ → State
advanced d t = record {
  clock = t;
  upper = risen t d.upper;
  lower = risen t d.lower;
  phase = phase_at t (watched d d.standing) d.phase;
  standing = standing_at t (watched d d.standing) d.standing;
}

-- A time that is not timely leaves the day as it is.
abbrev pub moved : State → ℕ → State
moved d t = cond (timely d.clock t) (advanced d t) d

-- To move to u by way of an earlier time is to move to u.
abbrev pub Twice : State → ℕ → Type 0
Twice d u = (t : ℕ) → t ≤ u → advanced (advanced d t) u ≡ advanced d u

-- To pass a moment before which nothing ends is to move to it.
abbrev pub PassMoves : State → ℕ → Type 0
PassMoves d e = passable e d ≡ true → passed e d ≡ advanced d e
