-- Fit orders: well formed and timely, and listed where they are shown.
use Rattle.std.specs.Prelude.{◌≡◌, ℕ, true, false, List, Some}
use Rattle.listings.specs.declared.code.MonthCode.{MonthCode}
use Rattle.listings.specs.declared.futures.FuturesMonth.{FuturesMonth}
use Rattle.listings.specs.declared.series.OptionSeries.{OptionSeries}
use Rattle.day.specs.declared.order.OptionOrder.{OptionOrder}
use Rattle.day.specs.Answering.{month_in, series_in, underlying_in}
use Rattle.days.specs.Asking.{CallData, future, series, moves}

-- A futures order x, whose month is not flagged there as on its last day.
pub record FitFuture (clock : ℕ) (x : CallData) (c : MonthCode) (q : ℕ) (ms : List FuturesMonth) : Type 0 where
  pub asks : x.asked ≡ future c q ms
  pub moves : moves clock x ≡ true
  pub month : FuturesMonth
  pub listed : month_in c ms ≡ Some month
  pub lasting : month.last_day ≡ false

-- An option order x in the listed series s, whose underlying is listed there too.
pub record FitOption (clock : ℕ) (x : CallData) (o : OptionOrder) (ss : List OptionSeries) (ms : List FuturesMonth) (s : OptionSeries) : Type 0 where
  pub asks : x.asked ≡ series o ss ms
  pub moves : moves clock x ≡ true
  pub listed : series_in o ss ≡ Some s
  pub based : underlying_in o.contract.code ms ≡ true
