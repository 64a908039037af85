-- What a day tells in answer to a call.
use Rattle.std.specs.Prelude.{ℕ, cond, Some, None, Ok, Err, Option, Result}
use Rattle.limits.specs.Meaning.{Meaning}
use Rattle.watches.specs.declared.state.State.{State}
use Rattle.day.specs.declared.fault.Refusal.{Refusal}
use Rattle.day.specs.declared.view.View.{View}
use Rattle.day.specs.Answering.{seen, mark_at, month_answer, month_in, series_in, underlying_in, series_answer}
use Rattle.day.specs.Codes.{number}
use Rattle.days.specs.Asking.{Asked, mark, tick, look, future, series, CallData, well_formed, timely}

-- An answer, its refusal read as a number.
pub data Told : Type 0 where
  granted : Told
  shows : View → Told
  refused : ℕ → Told

abbrev pub told : Result (Option View) Refusal → Told
told (Ok None) = granted
told (Ok (Some v)) = shows v
told (Err e) = refused (number e)

abbrev pub said : Result (Unit {0}) ℕ → Told
said (Ok x) = granted
said (Err k) = refused k

abbrev pub shown : Result View ℕ → Told
shown (Ok v) = shows v
shown (Err k) = refused k

-- Form first, then the time, then what the day at that time answers.
abbrev pub after_checks : ℕ → CallData → Told → Told
after_checks clock c a = cond (well_formed c.asked) (cond (timely clock c) a (refused 20)) (refused 21)

-- What a day in the state d, at the moment of the call, answers to what is asked.
abbrev pub answer_at : Meaning → ℕ → State → Asked → Told
answer_at m p d (mark k q) = said (mark_at m p d k q)
answer_at m p d tick = granted
answer_at m p d look = shows (seen m p d)
answer_at m p d (future c q ms) = said (month_answer m p d (month_in c ms) q)
answer_at m p d (series o ss ms) = said (series_answer m p d (series_in o ss) (underlying_in o.contract.code ms))
