-- What a run of calls on an opened day comes to.
use Rattle.std.specs.Prelude.{◌≡◌, ℕ, ◌+◌, ◌≤◌, true, List, ◌++◌}
use Rattle.limits.specs.Meaning.{Meaning}
use Rattle.limits.specs.Around.{within}
use Rattle.watches.specs.declared.state.Side.TheVariants.{Upper, Lower}
use Rattle.watches.specs.declared.state.State.{State}
use Rattle.watches.specs.Reading.{watch_starts, ended}
use Rattle.day.specs.declared.view.View.{View}
use Rattle.day.specs.Answering.{inside}
use Rattle.days.specs.Asking.{CallData}
use Rattle.days.specs.Telling.{Told}
use Rattle.days.specs.Past.{clock, accepted, standing, day_at, view_due, due}

-- The limits only widen: a price that is inside after the earlier calls, at any moment up to the clock, is inside those
-- of the view.
abbrev pub Widened : Meaning → ℕ → List CallData → View → Type 0
Widened m p cs v =
    (newer older : List CallData) → cs ≡ newer ++ older → (t q : ℕ) → t ≤ clock m p cs
    → inside m p (day_at m p older t) q ≡ true → within v.bounds q ≡ true

-- The day d after the calls cs, the newest first, its clock k, its view v, and what it tells to one call more: all as
-- the accepted marks read.
pub record ReadsSo (m : Meaning) (p : ℕ) (cs : List CallData) (c : CallData) (d : State) (k : ℕ) (v : View) (a : Told) : Type 0 where
  pub day_due : d ≡ day_at m p cs (clock m p cs)
  pub clock_due : k ≡ clock m p cs
  pub view : v ≡ view_due m p cs
  pub answer : a ≡ due m p cs c
  pub mark_due : v.standing ≡ standing m p cs (clock m p cs)
  pub lower_level : v.lower_level ≡ 1 + ended (watch_starts m.levels Lower (accepted m p cs)) (clock m p cs)
  pub upper_level : v.upper_level ≡ 1 + ended (watch_starts m.levels Upper (accepted m p cs)) (clock m p cs)
  pub widened : Widened m p cs v
