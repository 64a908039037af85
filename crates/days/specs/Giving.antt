-- What a call does to a day in the state d, and what is answered: m is the rule's meaning and p the price.
use Rattle.std.specs.Prelude.{ℕ, List, [], ◌∷◌, Some, None, fold, Option}
use Rattle.limits.specs.Meaning.{Meaning}
use Rattle.watches.specs.declared.state.State.{State}
use Rattle.watches.specs.Marking.{fresh}
use Rattle.watches.specs.Moving.{advanced}
use Rattle.day.specs.Answering.{acted, with_mark}
use Rattle.day.specs.declared.mark.Mark.{Mark}
use Rattle.days.specs.declared.call.Call.{Call}
use Rattle.days.specs.Asking.{CallData, as_mark, well_formed, carried}
use Rattle.days.specs.Telling.{Told, after_checks, answer_at}

module _ (m : Meaning) (p : ℕ) where
  abbrev pub with_any_mark : State → Option Mark → State
  with_any_mark d None = d
  with_any_mark d (Some k) = with_mark m p d k.kind k.price

  abbrev pub step : State → CallData → State
  step d c = acted (well_formed c.asked) d c.time (with_any_mark (advanced d c.time) (as_mark c.asked))

  abbrev pub answer : State → CallData → Told
  answer d c = after_checks d.clock c (answer_at m p (advanced d c.time) c.asked)

  -- The day after calls in order.
  abbrev pub played : State → List Call → State
  played d xs = fold (λ e x. step e (carried x)) d xs

  -- A fresh day after calls, the newest first.
  abbrev pub after : List CallData → State
  after [] = fresh
  after (c ∷ cs) = step (after cs) c
