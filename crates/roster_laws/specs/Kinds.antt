-- What `apply_changes` says at either kind, in the kind's own words.
use Rattle.std.specs.Prelude.{ℕ, List, length}
use Rattle.roster.specs.Rosters.{room_in}
use Rattle.listings.specs.declared.futures.FuturesMonth.{FuturesMonth}
use Rattle.listings.specs.declared.series.OptionSeries.{OptionSeries}
use Rattle.listings.specs.contracts.futures.FuturesMonthListing.TheImpl.{ghosts as month}
use Rattle.listings.specs.contracts.series.OptionSeriesListing.TheImpl.{ghosts as series}
use Rattle.listings.specs.Kinds.{sound_month, same_month, sound_series, same_series}
use Rattle.roster_laws.specs.declared.changes.Change.{Change}
use Rattle.roster_laws.specs.Laws.{Applied}

pub month_changes : (before after : List FuturesMonth) (cs : List (Change FuturesMonth)) (count : ℕ) → Applied month.sound month.same (room_in (length before)) before after cs count → Applied sound_month same_month (room_in (length before)) before after cs count
month_changes before after cs count h = h

pub series_changes : (before after : List OptionSeries) (cs : List (Change OptionSeries)) (count : ℕ) → Applied series.sound series.same (room_in (length before)) before after cs count → Applied sound_series same_series (room_in (length before)) before after cs count
series_changes before after cs count h = h
