-- The largest multiple of a step not above a number, and the smallest not below it.
use Rattle.std.proofs.Common.{◌≡◌, ℕ, ◌+◌, ◌-◌, ◌*◌, ◌/◌, ◌%◌, ◌^◌, ◌<◌, ◌≤◌, ◌⊎◌, ap, ◌∙◌, inl, inr, arith}
use Rattle.std.proofs.Math.Nat.{mul-le-mul_left, mul-mod_right, mod-le, mod-lt, mod-eq_of_lt, add-mod_right, mod_self}
use Rattle.std.proofs.lemmas.Bool.{cases_lt}
use Rattle.std.proofs.lemmas.Bool.Decides.{nat_tests}
use Rattle.limits.specs.Around.{not_above, not_below, next}
use Rattle.limits.specs.Laws.{Largest, Smallest}

module _ (step : ℕ) (some : 0 < step) where
  -- no multiple lies strictly between one and the next
  apart : (x q : ℕ) → q % step ≡ 0 → (q ≤ not_above step x) ⊎ (not_above step x + step ≤ q)
  apart x q h =
      elim (cases_lt (x / step) (q / step)) [
        | inl lt ↦ inr (omega (arith, mul-le-mul_left step lt))
        | inr le ↦ inl (omega (arith, mul-le-mul_left step le))
      ]

  above_whole : (x : ℕ) → not_above step x % step ≡ 0
  above_whole x =
      let e : x - x % step ≡ step * (x / step) = omega arith in
      ap (λ (y : ℕ). y % step) e ∙ mul-mod_right step (x / step)

  pub largest : (x : ℕ) → Largest step x (not_above step x)
  largest x = record {
    whole = above_whole x;
    low = omega arith;
    last = λ q h i. elim (apart x q h) [ inl le ↦ le | inr up ↦ omega (arith, mod-lt x some) ];
  }

  -- a number that is no multiple has the next one a step above the last
  past : (x : ℕ) → 0 < x % step → next step x ≡ not_above step x + step
  past x h =
      let e : (step - x % step) % step ≡ step - x % step = mod-eq_of_lt (omega (arith, mod-lt x some)) in
      omega (arith, mod-lt x some)

  -- a number below half of what fits has its next multiple among what fits
  fits : (x : ℕ) → step < 2 ^ 32 → x < 2 ^ 31 → next step x < 2 ^ 32
  fits x h i =
      let under : x < step → x % step ≡ x = λ l. mod-eq_of_lt l in
      grind (arith, under, mod-le (step - x % step) step, mod-lt x some)

  pub smallest : (x : ℕ) → step < 2 ^ 32 → x < 2 ^ 31 → Smallest step x (not_below step x)
  smallest x h i =
      let fit = fits x h i in
      let is : not_below step x ≡ next step x = grind (arith, nat_tests) in
      elim (cases_lt 0 (x % step)) [
        | inl over ↦
            rw (is, past x over) (record {
              whole = add-mod_right (not_above step x) step ∙ above_whole x;
              high = omega (arith, mod-lt x some);
              first = λ q w l. elim (apart x q w) [ inl le ↦ absurd (omega arith) | inr up ↦ up ];
            })
        | inr none ↦
            let at : next step x ≡ x = grind (arith, mod_self step) in
            rw (is, at) (record { whole = omega arith; high = omega arith; first = λ q w l. l })
      ]
