-- When what a call carries is well formed.
use Rattle.std.specs.Prelude.{ℕ, ◌%◌, Bool, true, false, ◌&&◌, ◌==◌, nat_le}
use Rattle.limits.specs.Meaning.{points}
use Rattle.listings.specs.declared.code.MonthCode.{MonthCode}
use Rattle.listings.specs.declared.series.OptionSeries.{OptionSeries}
use Rattle.listings.specs.Months.{sound_code}
use Rattle.listings.specs.Kinds.{sound_series}
use Rattle.watches.specs.declared.state.Kind.{Kind}
use Rattle.watches.specs.declared.state.Kind.TheVariants.{Bid, Offered, Clear}
use Rattle.day.specs.declared.order.OptionOrder.{OptionOrder}

-- A mark has any price, a clear one the price 0.
abbrev pub mark_formed : Kind → ℕ → Bool
mark_formed Bid q = true
mark_formed Offered q = true
mark_formed Clear q = q == 0

-- An order's price is a positive multiple of the tick, up to 400,000 points.
abbrev pub price_formed : ℕ → ℕ → Bool
price_formed tick q = nat_le 1 q && (nat_le q (points 400000) && q % tick == 0)

-- The tick of a futures month.
abbrev pub futures_tick : ℕ
futures_tick = points 5

abbrev pub future_formed : MonthCode → ℕ → Bool
future_formed c q = sound_code c && price_formed futures_tick q

-- The tick of an option series.
abbrev pub option_tick : ℕ
option_tick = points 1

-- The series that an order is in; the flag is no part of it.
abbrev pub ordered : OptionOrder → OptionSeries
ordered o = record { contract = o.contract; last_day = false }

-- The code, the strike and the price of an option order.
abbrev pub option_formed : OptionOrder → Bool
option_formed o = sound_series (ordered o) && price_formed option_tick o.price
