-- When two listings of a kind are the same, and which are well formed: the last-day flag is no part of either.
use Rattle.std.specs.Prelude.{Bool, true, false, ◌&&◌, ◌==◌, nat_le}
use Rattle.listings.specs.Months.{sound_code, same_code}
use Rattle.listings.specs.declared.futures.FuturesMonth.{FuturesMonth}
use Rattle.listings.specs.declared.series.OptionContract.{OptionContract}
use Rattle.listings.specs.declared.series.OptionSeries.{OptionSeries}
use Rattle.listings.specs.declared.series.Right.{Right}
use Rattle.listings.specs.declared.series.Right.TheVariants.{Call, Put}

abbrev pub same_month : FuturesMonth → FuturesMonth → Bool
same_month a b = same_code a.code b.code

abbrev pub sound_month : FuturesMonth → Bool
sound_month a = sound_code a.code

abbrev pub same_right : Right → Right → Bool
same_right Call Call = true
same_right Call Put = false
same_right Put Call = false
same_right Put Put = true

abbrev pub same_contract : OptionContract → OptionContract → Bool
same_contract a b = same_code a.code b.code && (a.strike == b.strike && same_right a.right b.right)

abbrev pub sound_contract : OptionContract → Bool
sound_contract a = sound_code a.code && (nat_le 1 a.strike && nat_le a.strike 400000)

abbrev pub same_series : OptionSeries → OptionSeries → Bool
same_series a b = same_contract a.contract b.contract

abbrev pub sound_series : OptionSeries → Bool
sound_series a = sound_contract a.contract
