-- What a day answers to a call, and the day afterwards: m is its rule's meaning, p its price, d its state.
use Rattle.std.specs.Prelude.{ℕ, Bool, true, false, cond, not, ◌&&◌, List, is_some, Some, None, Ok, Err, Option, Result, ◌==◌}
use Rattle.limits.specs.declared.bounds.Bounds.{Bounds}
use Rattle.limits.specs.Meaning.{Meaning}
use Rattle.limits.specs.Around.{bounds, within}
use Rattle.listings.specs.declared.code.MonthCode.{MonthCode}
use Rattle.listings.specs.declared.futures.FuturesMonth.{FuturesMonth}
use Rattle.listings.specs.declared.series.OptionSeries.{OptionSeries}
use Rattle.listings.specs.Kinds.{same_month, same_series}
use Rattle.listings.specs.Months.{underlying_code}
use Rattle.roster.specs.Places.{record_of}
use Rattle.watches.specs.declared.state.Kind.{Kind}
use Rattle.watches.specs.declared.state.Kind.TheVariants.{Bid, Offered, Clear}
use Rattle.watches.specs.declared.state.Phase.{Phase}
use Rattle.watches.specs.declared.state.Phase.TheVariants.{Open, Halted}
use Rattle.watches.specs.declared.state.Side.{Side}
use Rattle.watches.specs.declared.state.Side.TheVariants.{Upper, Lower}
use Rattle.watches.specs.declared.state.State.{State}
use Rattle.watches.specs.Ends.{end_of, halt_end}
use Rattle.watches.specs.Marking.{marked}
use Rattle.watches.specs.Moving.{advanced}
use Rattle.watches.specs.Words.{timely}
use Rattle.day.specs.declared.order.OptionOrder.{OptionOrder}
use Rattle.day.specs.declared.view.View.{View}
use Rattle.day.specs.Form.{futures_tick, mark_formed, future_formed, ordered, option_formed}

abbrev pub in_halt : Phase → Bool
in_halt Open = false
in_halt (Halted e) = true

abbrev pub halted : State → Bool
halted d = in_halt d.phase

-- The price is the edge that a mark of this kind is made at; a clear mark is made at none.
abbrev pub at_edge : Kind → ℕ → Bounds → Bool
at_edge Bid q b = q == b.upper_edge
at_edge Offered q b = q == b.lower_edge
at_edge Clear q b = true

-- The record of a month among those listed; the flag is no part of what is sought.
abbrev pub month_in : MonthCode → List FuturesMonth → Option FuturesMonth
month_in c ms = record_of (same_month (record { code = c; last_day = false })) ms

-- The record of the series that an order is in, among those listed.
abbrev pub series_in : OptionOrder → List OptionSeries → Option OptionSeries
series_in o ss = record_of (same_series (ordered o)) ss

-- The month that an option of this code is on stands among those listed.
abbrev pub underlying_in : MonthCode → List FuturesMonth → Bool
underlying_in c ms = is_some (month_in (underlying_code c) ms)

abbrev pub level_of : State → Side → ℕ
level_of d Upper = d.upper.level
level_of d Lower = d.lower.level

-- A mark of a side, or none, stands against an option: any mark, but one at the last of n levels on the option's last
-- day.
abbrev pub against : ℕ → State → Option Side → Bool → Bool
against n d None last_day = false
against n d (Some side) last_day = not (level_of d side == n && last_day)

-- Form first, then the time, then what the day at that time answers.
abbrev pub answered : {T : Type 0} → Bool → ℕ → ℕ → Result T ℕ → Result T ℕ
answered formed clock t a = cond formed (cond (timely clock t) a (Err 20)) (Err 21)

abbrev pub time_answer : State → ℕ → Result (Unit {0}) ℕ
time_answer d t = answered true d.clock t (Ok tt)

-- A call that is malformed or not timely leaves the day, any other leads to e.
abbrev pub acted : Bool → State → ℕ → State → State
acted formed d t e = cond formed (cond (timely d.clock t) e d) d

module _ (m : Meaning) (p : ℕ) where
  -- The limits and edges of the day.
  abbrev pub bounds_of : State → Bounds
  bounds_of d = bounds m futures_tick p d.lower.level d.upper.level

  abbrev pub inside : State → ℕ → Bool
  inside d q = within (bounds_of d) q

  abbrev pub seen : State → View
  seen d = record {
    bounds = bounds_of d;
    lower_level = d.lower.level;
    upper_level = d.upper.level;
    standing = d.standing;
    lower_watch = end_of d.lower.watch;
    upper_watch = end_of d.upper.watch;
    halt = halt_end d.phase;
  }

  -- The day at the moment of a call answers a mark, and a month's order.
  abbrev pub mark_at : State → Kind → ℕ → Result (Unit {0}) ℕ
  mark_at d k q = cond (halted d) (Err 23) (cond (at_edge k q (bounds_of d)) (Ok tt) (Err 26))

  abbrev pub month_answer : State → Option FuturesMonth → ℕ → Result (Unit {0}) ℕ
  month_answer d None q = Err 22
  month_answer d (Some f) q = cond (halted d) (Err 23) (cond (not f.last_day && not (inside d q)) (Err 24) (Ok tt))

  -- The day at the moment of a call answers a series' order; `based` says that its underlying is listed.
  abbrev pub series_answer : State → Option OptionSeries → Bool → Result (Unit {0}) ℕ
  series_answer d None based = Err 22
  series_answer d (Some s) based =
      cond based (cond (halted d) (Err 23) (cond (against m.levels d d.standing s.last_day) (Err 25) (Ok tt))) (Err 29)

  -- The day takes a mark: no halt runs and it is clear or at its side's edge.
  abbrev pub takes_mark : State → Kind → ℕ → Bool
  takes_mark d k q = not (halted d) && at_edge k q (bounds_of d)

  abbrev pub with_mark : State → Kind → ℕ → State
  with_mark d k q = cond (takes_mark d k q) (marked m.levels d k) d

  abbrev pub mark_answer : State → ℕ → Kind → ℕ → Result (Unit {0}) ℕ
  mark_answer d t k q = answered (mark_formed k q) d.clock t (mark_at (advanced d t) k q)

  abbrev pub mark_after : State → ℕ → Kind → ℕ → State
  mark_after d t k q = acted (mark_formed k q) d t (with_mark (advanced d t) k q)

  abbrev pub look_answer : State → ℕ → Result View ℕ
  look_answer d t = answered true d.clock t (Ok (seen (advanced d t)))

  abbrev pub future_answer : State → ℕ → MonthCode → ℕ → List FuturesMonth → Result (Unit {0}) ℕ
  future_answer d t c q ms = answered (future_formed c q) d.clock t (month_answer (advanced d t) (month_in c ms) q)

  abbrev pub option_answer : State → ℕ → OptionOrder → List OptionSeries → List FuturesMonth → Result (Unit {0}) ℕ
  option_answer d t o ss ms = answered (option_formed o) d.clock t (series_answer (advanced d t) (series_in o ss) (underlying_in o.contract.code ms))

abbrev pub future_after : State → ℕ → MonthCode → ℕ → State
future_after d t c q = acted (future_formed c q) d t (advanced d t)

abbrev pub option_after : State → ℕ → OptionOrder → State
option_after d t o = acted (option_formed o) d t (advanced d t)
