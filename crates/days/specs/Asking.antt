-- What a call carries, free of references.
use Rattle.std.specs.Prelude.{ℕ, Bool, true, ◌&&◌, List, map, reverse, Some, None, Option}
use Rattle.listings.specs.declared.code.MonthCode.{MonthCode}
use Rattle.listings.specs.declared.futures.FuturesMonth.{FuturesMonth}
use Rattle.listings.specs.declared.series.OptionSeries.{OptionSeries}
use Rattle.watches.specs.declared.state.Kind.{Kind}
use Rattle.watches.specs.Words as words
use Rattle.day.specs.declared.mark.Mark.{Mark}
use Rattle.day.specs.declared.order.OptionOrder.{OptionOrder}
use Rattle.day.specs.Form.{mark_formed, future_formed, option_formed}
use Rattle.days.specs.declared.call.Action.{Action}
use Rattle.days.specs.declared.call.Action.TheVariants as action
use Rattle.days.specs.declared.call.Call.{Call}

-- What a call asks, with the listings that it is shown.
pub data Asked : Type 0 where
  mark : Kind → ℕ → Asked
  tick : Asked
  look : Asked
  future : MonthCode → ℕ → List FuturesMonth → Asked
  series : OptionOrder → List OptionSeries → List FuturesMonth → Asked

pub record CallData : Type 0 where
  pub time : ℕ
  pub asked : Asked

abbrev pub asked_by : Action → Asked
asked_by (action.Mark k) = mark k.kind k.price
asked_by action.Tick = tick
asked_by action.Look = look
asked_by (action.Future o ms) = future o.code o.price ms.now
asked_by (action.Option o ss ms) = series o ss.now ms.now

abbrev pub carried : Call → CallData
carried c = record { time = c.time; asked = asked_by c.action }

-- What calls carry, given in order and turned: the newest stands first.
abbrev pub all_carried : List Call → List CallData
all_carried xs = reverse (map carried xs)

-- The mark that a call makes. No other call changes more than the time.
abbrev pub as_mark : Asked → Option Mark
as_mark (mark k q) = Some (record { kind = k; price = q })
as_mark tick = None
as_mark look = None
as_mark (future c q ms) = None
as_mark (series o ss ms) = None

-- Well formed: 21 does not apply to what the call carries.
abbrev pub well_formed : Asked → Bool
well_formed (mark k q) = mark_formed k q
well_formed tick = true
well_formed look = true
well_formed (future c q ms) = future_formed c q
well_formed (series o ss ms) = option_formed o

-- Timely: the call's time is of the day and not before the clock.
abbrev pub timely : ℕ → CallData → Bool
timely clock c = words.timely clock c.time

-- The call moves the day, whether it is refused at its time or not.
abbrev pub moves : ℕ → CallData → Bool
moves clock c = well_formed c.asked && timely clock c
