-- A day read from the marks accepted since its start, and from nothing else. The newest mark stands first, and n is the
-- number of levels.
use Rattle.std.specs.Prelude.{◌≡◌, ℕ, ◌+◌, ◌≤◌, Bool, true, false, cond, ◌&&◌, ◌||◌, List, [], ◌∷◌, length, Some, None, Option, nat_le, nat_lt}
use Rattle.watches.specs.declared.state.Side.{Side}
use Rattle.watches.specs.declared.state.Side.TheVariants.{Upper, Lower}
use Rattle.watches.specs.declared.state.AcceptedMark.{AcceptedMark}
use Rattle.watches.specs.declared.state.Watch.{Watch}
use Rattle.watches.specs.declared.state.Watch.TheVariants.{Idle, Running}
use Rattle.watches.specs.declared.state.Phase.{Phase}
use Rattle.watches.specs.declared.state.Phase.TheVariants.{Open, Halted}
use Rattle.watches.specs.declared.state.State.{State}
use Rattle.watches.specs.Words.{span, of, side_of}

-- Of the watches that started at these moments, the newest first, none runs any more at t.
abbrev pub none_runs : List ℕ → ℕ → Bool
none_runs [] t = true
none_runs (s ∷ ss) t = nat_le (s + span) t

-- The starts with one mark more: a mark of the side starts a watch if none runs there and the side, which each watch
-- before has raised by one, is below level n.
abbrev pub with_any_mark : ℕ → Side → AcceptedMark → List ℕ → List ℕ
with_any_mark n side m ss = cond (of side m.kind && none_runs ss m.time && nat_lt (length ss + 1) n) (m.time ∷ ss) ss

-- When the watches of a side started.
abbrev pub watch_starts : ℕ → Side → List AcceptedMark → List ℕ
watch_starts n side [] = []
watch_starts n side (m ∷ ms) = with_any_mark n side m (watch_starts n side ms)

-- How many of the watches that started at these moments have ended by t.
abbrev pub ended : List ℕ → ℕ → ℕ
ended [] t = 0
ended (s ∷ ss) t = cond (nat_le (s + span) t) 1 0 + ended ss t

-- A side's level at t: 1, and the watches that have ended there.
abbrev pub level : ℕ → Side → List AcceptedMark → ℕ → ℕ
level n side ms t = 1 + ended (watch_starts n side ms) t

-- The end of the watch that runs at t, of those that started at these moments.
abbrev pub watch_end : List ℕ → ℕ → Option ℕ
watch_end [] t = None
watch_end (s ∷ ss) t = cond (nat_le s t && nat_lt t (s + span)) (Some (s + span)) (watch_end ss t)

-- The last accepted mark timed before e is of the side.
abbrev pub last_mark_of : Side → List AcceptedMark → ℕ → Bool
last_mark_of side [] e = false
last_mark_of side (m ∷ ms) e = cond (nat_lt m.time e) (of side m.kind) (last_mark_of side ms e)

-- The end of the halt that runs at t, of the watches of a side that started at these moments. A watch ends in a halt
-- exactly when the last accepted mark timed before its end is of its side. The halt covers the span from that end,
-- without the closing moment.
abbrev pub halt_of : Side → List AcceptedMark → List ℕ → ℕ → Option ℕ
halt_of side ms [] t = None
halt_of side ms (s ∷ ss) t =
    cond (nat_le (s + span) t && nat_lt t (s + span + span) && last_mark_of side ms (s + span)) (Some (s + span + span)) (halt_of side ms ss t)

abbrev pub or_else : Option ℕ → Option ℕ → Option ℕ
or_else (Some x) y = Some x
or_else None y = y

-- The end of the halt that runs at t.
abbrev pub halt : ℕ → List AcceptedMark → ℕ → Option ℕ
halt n ms t = or_else (halt_of Upper ms (watch_starts n Upper ms) t) (halt_of Lower ms (watch_starts n Lower ms) t)

-- Of the watches of a side that started at these moments, one has ended in a halt after the moment a and by t.
abbrev pub halt_began : Side → List AcceptedMark → List ℕ → ℕ → ℕ → Bool
halt_began side ms [] a t = false
halt_began side ms (s ∷ ss) a t =
    (nat_lt a (s + span) && nat_le (s + span) t && last_mark_of side ms (s + span)) || halt_began side ms ss a t

-- The standing mark at t: the last accepted one, unless that is clear or a halt began after it.
abbrev pub standing : ℕ → List AcceptedMark → ℕ → Option Side
standing n [] t = None
standing n (m ∷ ms) t =
    cond (halt_began Upper (m ∷ ms) (watch_starts n Upper (m ∷ ms)) m.time t || halt_began Lower (m ∷ ms) (watch_starts n Lower (m ∷ ms)) m.time t)
    None
    (side_of m.kind)

abbrev pub watch_till : Option ℕ → Watch
watch_till None = Idle
watch_till (Some e) = Running e

abbrev pub phase_till : Option ℕ → Phase
phase_till None = Open
phase_till (Some e) = Halted e

-- The day at t.
abbrev pub read : ℕ → List AcceptedMark → ℕ → State
read n ms t = record {
  clock = t;
  upper = record { level = level n Upper ms t; watch = watch_till (watch_end (watch_starts n Upper ms) t) };
  lower = record { level = level n Lower ms t; watch = watch_till (watch_end (watch_starts n Lower ms) t) };
  phase = phase_till (halt n ms t);
  standing = standing n ms t;
}

-- The time of the last mark, 0 where there is none.
abbrev pub newest : List AcceptedMark → ℕ
newest [] = 0
newest (m ∷ ms) = m.time

-- The marks came about by acceptance: in order of time, each at a moment at which, by the marks before it, no halt ran.
abbrev pub Came : ℕ → List AcceptedMark → Type 0
Came n [] = Unit {0}
Came n (m ∷ ms) = Came n ms × (newest ms ≤ m.time) × (halt n ms m.time ≡ None)
