-- A day moved to a later time by one end after another, in order of time.
use Rattle.std.specs.Prelude.{◌≡◌, ℕ, ◌+◌, ◌≤◌, Bool, true, false, cond, Some, None, Option}
use Rattle.watches.specs.declared.state.Side.{Side}
use Rattle.watches.specs.declared.state.Side.TheVariants.{Upper, Lower}
use Rattle.watches.specs.declared.state.Watch.TheVariants.{Idle, Running}
use Rattle.watches.specs.declared.state.Phase.TheVariants.{Open, Halted}
use Rattle.watches.specs.declared.state.State.{State}
use Rattle.watches.specs.Words.{span}
use Rattle.watches.specs.Moving.{advanced}

-- A watch or a halt of the day has its end at e.
pub data Ends (d : State) (e : ℕ) : Type 0 where
  upper_watch : d.upper.watch ≡ Running e → Ends d e
  lower_watch : d.lower.watch ≡ Running e → Ends d e
  halt : d.phase ≡ Halted e → Ends d e

-- No end of the day is before e.
abbrev pub First : State → ℕ → Type 0
First d e = (x : ℕ) → Ends d x → e ≤ x

-- The mark that stands is of the side.
abbrev pub stands : Side → Option Side → Bool
stands side None = false
stands Upper (Some Upper) = true
stands Upper (Some Lower) = false
stands Lower (Some Upper) = false
stands Lower (Some Lower) = true

-- The end, at e, of the watch of a side: one level more, and, if the mark that stands is of the side, a halt that lifts it.
abbrev pub end_watch : Side → ℕ → State → State
end_watch Upper e d = record {
  clock = e;
  upper = record { level = d.upper.level + 1; watch = Idle };
  lower = d.lower;
  phase = cond (stands Upper d.standing) (Halted (e + span)) d.phase;
  standing = cond (stands Upper d.standing) None d.standing;
}
end_watch Lower e d = record {
  clock = e;
  upper = d.upper;
  lower = record { level = d.lower.level + 1; watch = Idle };
  phase = cond (stands Lower d.standing) (Halted (e + span)) d.phase;
  standing = cond (stands Lower d.standing) None d.standing;
}

-- The end, at e, of the halt.
abbrev pub end_halt : ℕ → State → State
end_halt e d = record { clock = e; upper = d.upper; lower = d.lower; phase = Open; standing = d.standing }

-- The clock alone goes on to t.
abbrev pub waited : ℕ → State → State
waited t d = record { clock = t; upper = d.upper; lower = d.lower; phase = d.phase; standing = d.standing }

-- The day moves to t: each end up to t comes when it is the first, and then the clock goes on.
pub data Moves (t : ℕ) : State → State → Type 0 where
  rest : {d : State} → First d (t + 1) → Moves t d (waited t d)
  upper : {d f : State} (e : ℕ) → d.upper.watch ≡ Running e → e ≤ t → First d e → Moves t (end_watch Upper e d) f → Moves t d f
  lower : {d f : State} (e : ℕ) → d.lower.watch ≡ Running e → e ≤ t → First d e → Moves t (end_watch Lower e d) f → Moves t d f
  halt : {d f : State} (e : ℕ) → d.phase ≡ Halted e → e ≤ t → First d e → Moves t (end_halt e d) f → Moves t d f

-- The move at once is such a move, and every such move leads there.
pub record InOrder (d : State) (t : ℕ) : Type 0 where
  pub comes : Moves t d (advanced d t)
  pub only : (f : State) → Moves t d f → f ≡ advanced d t
