-- When two days are given the same: tapes, accepted marks, and a further call.
use Rattle.std.specs.Prelude.{◌≡◌, ℕ, Bool, ◌⊎◌, List, [], ◌∷◌}
use Rattle.tape.specs.Format.{Plain}
use Rattle.tape.specs.Sound.{Sound}
use Rattle.reference.specs.declared.finding.Request.{Request}
use Rattle.tape_laws.specs.Alike.{SameRecords}
use Rattle.listings.specs.declared.code.MonthCode.{MonthCode}
use Rattle.listings.specs.declared.futures.FuturesMonth.{FuturesMonth}
use Rattle.listings.specs.declared.series.OptionSeries.{OptionSeries}
use Rattle.roster_laws.specs.Laws.{Apart}
use Rattle.watches.specs.declared.state.AcceptedMark.{AcceptedMark}
use Rattle.watches.specs.declared.state.Kind.{Kind}
use Rattle.day.specs.declared.order.OptionOrder.{OptionOrder}
use Rattle.day.specs.Answering.{month_in, series_in}
use Rattle.days.specs.Asking.{Asked, mark, tick, look, future, series}

-- Both tapes are sound, and each record of the request's symbol in its widest window stands equally often on both.
pub record SameTapes (q : Request) (a b : List ℕ) : Type 0 where
  pub records_a : List Plain
  pub records_b : List Plain
  pub sound_a : Sound a records_a
  pub sound_b : Sound b records_b
  pub alike : SameRecords q records_a records_b

-- Marks that agree: one by one they have the same time and are alike bid, offered or clear.
abbrev pub Agree : List AcceptedMark → List AcceptedMark → Type 0
Agree [] [] = Unit {0}
Agree [] (y ∷ ys) = ⊥
Agree (x ∷ xs) [] = ⊥
Agree (x ∷ xs) (y ∷ ys) = (x.time ≡ y.time) × (x.kind ≡ y.kind) × Agree xs ys

-- Two rosters that list the same with the same flags, in whatever order: looked up in either, each month or series is
-- found alike, or in neither.
abbrev pub SameMonths : List FuturesMonth → List FuturesMonth → Type 0
SameMonths xs ys = (c : MonthCode) → month_in c xs ≡ month_in c ys

abbrev pub SameSeries : List OptionSeries → List OptionSeries → Type 0
SameSeries xs ys = (o : OptionOrder) → series_in o xs ≡ series_in o ys

-- The entry stands in the row.
abbrev pub Stands : {L : Type 0} → L → List L → Type 0
Stands x [] = ⊥
Stands x (y ∷ ys) = (x ≡ y) ⊎ Stands x ys

-- Two rows of the same entries, in whatever order, each with no two that are the same.
pub record Reordered {L : Type 0} (same : L → L → Bool) (xs ys : List L) : Type 0 where
  pub apart_xs : Apart same xs
  pub apart_ys : Apart same ys
  pub into : (x : L) → Stands x xs → Stands x ys
  pub back : (x : L) → Stands x ys → Stands x xs

-- One call, shown to each of two days with a roster of its own.
pub data SameAsked : Asked → Asked → Type 0 where
  marks : {k : Kind} {q : ℕ} → SameAsked (mark k q) (mark k q)
  ticks : SameAsked tick tick
  looks : SameAsked look look
  futures : {c : MonthCode} {q : ℕ} {xs ys : List FuturesMonth} → SameMonths xs ys → SameAsked (future c q xs) (future c q ys)
  options : {o : OptionOrder} {ss us : List OptionSeries} {xs ys : List FuturesMonth} → SameSeries ss us → SameMonths xs ys
      → SameAsked (series o ss xs) (series o us ys)
