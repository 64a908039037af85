-- What a list of calls leaves behind, and the answer due to one more: read from the marks accepted among them, never
-- from a day that is run. The newest call stands first, m is the rule's meaning and p the price.
use Rattle.std.specs.Prelude.{ℕ, Bool, cond, List, [], ◌∷◌, Some, None, Option}
use Rattle.limits.specs.Meaning.{Meaning}
use Rattle.watches.specs.declared.state.AcceptedMark.{AcceptedMark}
use Rattle.watches.specs.declared.state.Side.{Side}
use Rattle.watches.specs.declared.state.State.{State}
use Rattle.watches.specs.Reading as reading
use Rattle.day.specs.declared.view.View.{View}
use Rattle.day.specs.Answering.{takes_mark, seen}
use Rattle.day.specs.declared.mark.Mark.{Mark}
use Rattle.days.specs.Asking.{CallData, as_mark, moves}
use Rattle.days.specs.Telling.{Told, after_checks, answer_at}

pub record Past : Type 0 where
  pub clock : ℕ
  pub marks : List AcceptedMark

abbrev pub start : Past
start = record { clock = 0; marks = [] }

module _ (m : Meaning) (p : ℕ) where
  -- Accepted: a mark at t, exactly when by the marks accepted before it no halt runs at t and it is clear or at its
  -- side's edge.
  abbrev pub accepts : List AcceptedMark → ℕ → Mark → Bool
  accepts ms t k = takes_mark m p (reading.read m.levels ms t) k.kind k.price

  abbrev pub with_mark_at : ℕ → Option Mark → List AcceptedMark → List AcceptedMark
  with_mark_at t None ms = ms
  with_mark_at t (Some k) ms = cond (accepts ms t k) (record { time = t; kind = k.kind } ∷ ms) ms

  -- One call more: one that is well formed and timely sets the clock, and its mark may be accepted.
  abbrev pub after_call : Past → CallData → Past
  after_call h c =
      cond (moves h.clock c) (record { clock = c.time; marks = with_mark_at c.time (as_mark c.asked) h.marks }) h

  abbrev pub past : List CallData → Past
  past [] = start
  past (c ∷ cs) = after_call (past cs) c

  -- Clock: the time of the last well-formed, timely call, refused or not; 0 at first.
  abbrev pub clock : List CallData → ℕ
  clock cs = (past cs).clock

  -- The marks accepted among the calls.
  abbrev pub accepted : List CallData → List AcceptedMark
  accepted cs = (past cs).marks

  -- The day that the accepted marks read at t.
  abbrev pub day_at : List CallData → ℕ → State
  day_at cs t = reading.read m.levels (accepted cs) t

  -- Standing: the side of the last accepted mark at t, unless that mark is clear or a halt began after it.
  abbrev pub standing : List CallData → ℕ → Option Side
  standing cs t = reading.standing m.levels (accepted cs) t

  abbrev pub view_due : List CallData → View
  view_due cs = seen m p (day_at cs (clock cs))

  abbrev pub due : List CallData → CallData → Told
  due cs c = after_checks (clock cs) c (answer_at m p (day_at cs c.time) c.asked)
