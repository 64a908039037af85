-- The moments at which watches and halts end, and what such a moment does.
use Rattle.std.specs.Prelude.{ℕ, ◌+◌, min, Bool, true, false, cond, ◌&&◌, Some, None, Option, nat_le}
use Rattle.watches.specs.declared.state.Side.{Side}
use Rattle.watches.specs.declared.state.Side.TheVariants.{Upper, Lower}
use Rattle.watches.specs.declared.state.Watch.{Watch}
use Rattle.watches.specs.declared.state.Watch.TheVariants.{Idle, Running}
use Rattle.watches.specs.declared.state.Phase.{Phase}
use Rattle.watches.specs.declared.state.Phase.TheVariants.{Open, Halted}
use Rattle.watches.specs.declared.state.Band.{Band}
use Rattle.watches.specs.declared.state.State.{State}
use Rattle.watches.specs.Words.{span, timely}

-- The end of a watch that runs, and of a halt that runs.
abbrev pub end_of : Watch → Option ℕ
end_of Idle = None
end_of (Running e) = Some e

abbrev pub halt_end : Phase → Option ℕ
halt_end Open = None
halt_end (Halted e) = Some e

abbrev pub is_halted : Phase → Bool
is_halted Open = false
is_halted (Halted e) = true

abbrev pub earlier : Option ℕ → Option ℕ → Option ℕ
earlier (Some x) (Some y) = Some (min x y)
earlier (Some x) None = Some x
earlier None y = y

-- The earliest end of all that runs.
abbrev pub first_end : State → Option ℕ
first_end d = earlier (earlier (end_of d.upper.watch) (end_of d.lower.watch)) (halt_end d.phase)

abbrev pub up_to : ℕ → Option ℕ → Option ℕ
up_to t None = None
up_to t (Some e) = cond (nat_le e t) (Some e) None

-- The earliest end, if it is not after t.
abbrev pub end_by : State → ℕ → Option ℕ
end_by d t = up_to t (first_end d)

-- The watch has its end at or before t.
abbrev pub over : ℕ → Watch → Bool
over t Idle = false
over t (Running e) = nat_le e t

-- A side at t: its level rises by one where its watch has ended.
abbrev pub risen : ℕ → Band → Band
risen t b = cond (over t b.watch) (record { level = b.level + 1; watch = Idle }) b

-- A halt is over at its end.
abbrev pub reopened : ℕ → Phase → Phase
reopened t Open = Open
reopened t (Halted e) = cond (nat_le e t) Open (Halted e)

-- A side's level and watch.
abbrev pub band_of : State → Side → Band
band_of d Upper = d.upper
band_of d Lower = d.lower

abbrev pub watch_of : State → Side → Watch
watch_of d side = (band_of d side).watch

-- The watch of the side whose mark stands.
abbrev pub watched : State → Option Side → Watch
watched d None = Idle
watched d (Some side) = watch_of d side

-- All that ends at the moment e, where nothing ends before: both watches and a halt may. If a watch ends whose side's
-- mark stands, a halt begins and lifts the mark.
abbrev pub passed : ℕ → State → State
passed e d = record {
  clock = e;
  upper = risen e d.upper;
  lower = risen e d.lower;
  phase = cond (over e (watched d d.standing)) (Halted (e + span)) (reopened e d.phase);
  standing = cond (over e (watched d d.standing)) None d.standing;
}

abbrev pub none_before : ℕ → Option ℕ → Bool
none_before e None = true
none_before e (Some x) = nat_le e x

-- A day passes to a timely moment before which nothing ends, and stays as it is at any other.
abbrev pub passable : ℕ → State → Bool
passable e d = timely d.clock e && none_before e (first_end d)

abbrev pub pass_to : ℕ → State → State
pass_to e d = cond (passable e d) (passed e d) d
