-- Rows with the same entries, in whatever order, are looked up alike.
use Rattle.std.proofs.Common.{rules, ◌≡◌, Bool, true, false, List, [], ◌∷◌, Some, None, Option, sym, refl, ap, ◌∙◌, subst, inl, inr, arith}
use Rattle.std.proofs.lemmas.Bool.{cases_Bool, cond-true, cond-false, or_parts, both_ways}
use Rattle.std.proofs.lemmas.Bool.Decides.{nat_tests}
use Rattle.roster.specs.Places.{record_of}
use Rattle.listings.specs.declared.code.MonthCode.{MonthCode}
use Rattle.listings.specs.declared.futures.FuturesMonth.{FuturesMonth}
use Rattle.listings.specs.declared.series.OptionSeries.{OptionSeries}
use Rattle.listings.specs.Kinds.{same_month, same_series}
use Rattle.listings.specs.Months.{same_code}
use Rattle.listings.specs.Sames.{series_trans}
use Rattle.roster_laws.specs.Changing.{any}
use Rattle.roster_laws.specs.Laws.{Apart}
use Rattle.promise.specs.Same.{Stands, Reordered, SameMonths, SameSeries}
use Rattle.day.specs.Form.{ordered}

module _ {L : Type 0} (same : L → L → Bool) where
  -- sameness as two look-ups need it: what is the same as one entry is the same as the other
  abbrev pub Shared : Type 0
  Shared = (w x y : L) → same w x ≡ true → same w y ≡ true → same x y ≡ true

  none_of : (x y : L) (ys : List L) → any (same y) ys ≡ false → Stands x ys → same y x ≡ true → ⊥
  none_of x y [] none at is = at
  none_of x y (z ∷ zs) none (inl e) is =
      both_ways (same y z) (or_parts (same y z) (any (same y) zs) none).0 (subst (λ (v : L). same y v ≡ true) e is)
  none_of x y (z ∷ zs) none (inr at) is = none_of x y zs (or_parts (same y z) (any (same y) zs) none).1 at is

  module _ (shared : Shared) (w : L) where
    -- an entry that is the same as the wanted one is the one found
    finds : (x : L) (xs : List L) → Apart same xs → Stands x xs → same w x ≡ true → record_of (same w) xs ≡ Some x
    finds x [] apart at is = absurd at
    finds x (y ∷ ys) apart (inl e) is =
        cond-true (same w y) (Some y) (record_of (same w) ys) (subst (λ (v : L). same w v ≡ true) e is) ∙ ap Some (sym e)
    finds x (y ∷ ys) apart (inr at) is =
        elim (cases_Bool (same w y)) [
          | inl t ↦ absurd (none_of x y ys apart.0 at (shared w y x t is))
          | inr f ↦ cond-false (same w y) (Some y) (record_of (same w) ys) f ∙ finds x ys apart.1 at is
        ]

    found_stands : (x : L) (xs : List L) → record_of (same w) xs ≡ Some x → Stands x xs × (same w x ≡ true)
    found_stands x [] e = cc
    found_stands x (y ∷ ys) e =
        elim (cases_Bool (same w y)) [
          | inl t ↦
              let is : y ≡ x = let h = cond-true (same w y) (Some y) (record_of (same w) ys) t in cc in
              (inl (sym is), subst (λ (v : L). same w v ≡ true) is t)
          | inr f ↦
              let h = found_stands x ys (sym (cond-false (same w y) (Some y) (record_of (same w) ys) f) ∙ e) in
              (inr h.0, h.1)
        ]

    alike : (xs ys : List L) → Reordered same xs ys → (o p : Option L) → record_of (same w) xs ≡ o → record_of (same w) ys ≡ p → o ≡ p
    alike xs ys r (Some x) p e f =
        let h = found_stands x xs e in
        sym (finds x ys r.apart_ys (r.into x h.0) h.1) ∙ f
    alike xs ys r None (Some y) e f =
        let h = found_stands y ys f in
        sym e ∙ finds y xs r.apart_xs (r.back y h.0) h.1
    alike xs ys r None None e f = refl

    pub reordered : (xs ys : List L) → Reordered same xs ys → record_of (same w) xs ≡ record_of (same w) ys
    reordered xs ys r = alike xs ys r (record_of (same w) xs) (record_of (same w) ys) refl refl

code_shared : (w x y : MonthCode) → same_code w x ≡ true → same_code w y ≡ true → same_code x y ≡ true
code_shared w x y a b = grind (arith, nat_tests)

series_back : (x y : OptionSeries) → same_series x y ≡ true → same_series y x ≡ true
series_back x y e = search rules

pub months_reordered : (xs ys : List FuturesMonth) → Reordered same_month xs ys → SameMonths xs ys
months_reordered xs ys r c =
    reordered same_month (λ w x y. code_shared w.code x.code y.code) (record { code = c; last_day = false }) xs ys r

pub series_reordered : (xs ys : List OptionSeries) → Reordered same_series xs ys → SameSeries xs ys
series_reordered xs ys r o =
    reordered same_series (λ w x y a b. series_trans x w y (series_back w x a) b) (ordered o) xs ys r
