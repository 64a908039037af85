-- Fit orders are admitted as the rules say.
use Rattle.std.proofs.Common.{◌≡◌, ℕ, Bool, true, false, cond, not, ◌&&◌, List, Some, Option, sym, refl, ap, ◌∙◌}
use Rattle.std.proofs.lemmas.Bool.{and_parts, cond-true}
use Rattle.limits.specs.Meaning.{Meaning}
use Rattle.listings.specs.declared.code.MonthCode.{MonthCode}
use Rattle.listings.specs.declared.futures.FuturesMonth.{FuturesMonth}
use Rattle.listings.specs.declared.series.OptionSeries.{OptionSeries}
use Rattle.watches.specs.declared.state.AcceptedMark.{AcceptedMark}
use Rattle.day.specs.declared.order.OptionOrder.{OptionOrder}
use Rattle.day.specs.Answering.{underlying_in}
use Rattle.days.specs.Asking.{CallData, well_formed, timely, moves}
use Rattle.days.specs.Telling.{Told, granted, refused, after_checks}
use Rattle.days.specs.Due.{inside, halted, against, due_month, due_series, due_at}
use Rattle.promise.specs.Fit.{FitFuture, FitOption}
use Rattle.promise.specs.Promise.{Exactly}

-- a call that moves the day is answered at its time
checked : (k : ℕ) (c : CallData) (a : Told) → moves k c ≡ true → after_checks k c a ≡ a
checked k c a e =
    let f = and_parts (well_formed c.asked) (timely k c) e in
    cond-true (well_formed c.asked) _ (refused 21) f.0 ∙ cond-true (timely k c) a (refused 20) f.1

month_bools : (h i l : Bool) → l ≡ false → Exactly (cond h (refused 23) (cond (not l && not i) (refused 24) granted) ≡ granted) ((i ≡ true) × (h ≡ false))
month_bools true i l e = (λ x. (cc, cc), λ x. let a = x.1 in cc)
month_bools false true true e = (λ x. (refl, refl), λ x. refl)
month_bools false true false e = (λ x. (refl, refl), λ x. refl)
month_bools false false true e = (λ x. (cc, cc), λ x. let a = x.0 in cc)
month_bools false false false e = (λ x. (cc, cc), λ x. let a = x.0 in cc)

series_bools : (b h a : Bool) → b ≡ true → Exactly (cond b (cond h (refused 23) (cond a (refused 25) granted)) (refused 29) ≡ granted) ((h ≡ false) × (a ≡ false))
series_bools false h a e = (λ x. (cc, cc), λ x. cc)
series_bools true true a e = (λ x. (cc, cc), λ x. let y = x.0 in cc)
series_bools true false true e = (λ x. (cc, cc), λ x. let y = x.1 in cc)
series_bools true false false e = (λ x. (refl, refl), λ x. refl)

along : (R : Type 0) (z y : Told) → z ≡ y → Exactly (y ≡ granted) R → Exactly (z ≡ granted) R
along R z y e x = (λ k. x.0 (sym e ∙ k), λ k. e ∙ x.1 k)

module _ (m : Meaning) (p : ℕ) (ms : List AcceptedMark) (k : ℕ) (c : CallData) where
  abbrev told : Told
  told = after_checks k c (due_at m p ms c.time c.asked)

  pub admits_future : (code : MonthCode) (q : ℕ) (fs : List FuturesMonth) → FitFuture k c code q fs
      → Exactly (told ≡ granted) ((inside m p ms c.time q ≡ true) × (halted m p ms c.time ≡ false))
  admits_future code q fs fit =
      along ((inside m p ms c.time q ≡ true) × (halted m p ms c.time ≡ false)) told (due_month m p (Some fit.month) q ms c.time)
      (checked k c (due_at m p ms c.time c.asked) fit.moves ∙ ap (due_at m p ms c.time) fit.asks
      ∙ ap (λ (f : Option FuturesMonth). due_month m p f q ms c.time) fit.listed)
      (month_bools (halted m p ms c.time) (inside m p ms c.time q) fit.month.last_day fit.lasting)

  pub admits_option : (o : OptionOrder) (ss : List OptionSeries) (fs : List FuturesMonth) (s : OptionSeries) → FitOption k c o ss fs s
      → Exactly (told ≡ granted) ((halted m p ms c.time ≡ false) × (against m p s.last_day ms c.time ≡ false))
  admits_option o ss fs s fit =
      along ((halted m p ms c.time ≡ false) × (against m p s.last_day ms c.time ≡ false)) told (due_series m p (Some s) (underlying_in o.contract.code fs) ms c.time)
      (checked k c (due_at m p ms c.time c.asked) fit.moves ∙ ap (due_at m p ms c.time) fit.asks
      ∙ ap (λ (f : Option OptionSeries). due_series m p f (underlying_in o.contract.code fs) ms c.time) fit.listed)
      (series_bools (underlying_in o.contract.code fs) (halted m p ms c.time) (against m p s.last_day ms c.time) fit.based)
