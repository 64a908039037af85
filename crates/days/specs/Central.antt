-- The central theorem: a day after any calls, and its answers, are what the accepted marks read.
use Rattle.std.specs.Prelude.{◌≡◌, ℕ, ◌≤◌, List}
use Rattle.limits.specs.Meaning.{Meaning}
use Rattle.watches.specs.Marking.{fresh}
use Rattle.watches.specs.Moving.{advanced}
use Rattle.days.specs.declared.call.Call.{Call}
use Rattle.days.specs.Asking.{CallData, all_carried}
use Rattle.days.specs.Past.{clock, day_at, due}
use Rattle.days.specs.Giving.{answer, played, after}

-- A day of the rule m at the price p after the calls cs, the newest first.
pub record Central (m : Meaning) (p : ℕ) (cs : List CallData) : Type 0 where
  -- It is what the accepted marks read at its clock,
  pub at_clock : after m p cs ≡ day_at m p cs (clock m p cs)
  -- moved to any moment from then on, what they read there,
  pub later : (t : ℕ) → clock m p cs ≤ t → advanced (after m p cs) t ≡ day_at m p cs t
  -- and it answers any call as due.
  pub answers : (c : CallData) → answer m p (after m p cs) c ≡ due m p cs c

-- Calls given in order lead to that day.
abbrev pub InTurn : Meaning → ℕ → Type 0
InTurn m p = (xs : List Call) → played m p fresh xs ≡ after m p (all_carried xs)
