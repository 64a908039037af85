-- Removing at the first place that passes, as a recursion.
use Rattle.std.proofs.Common.{◌≡◌, ℕ, suc, ◌+◌, ◌-◌, ◌≤◌, Bool, true, false, cond, ◌||◌, List, [], ◌∷◌, is_some, Some, None, Option, sym, refl, ap, ◌∙◌, inl, inr, arith}
use native.Mathlib.Nat.{sub-zero}
use Rattle.std.specs.List.{remove}
use Rattle.std.specs.Set.{remove_key}
use Rattle.std.proofs.lemmas.Bool.{cond-true, cond-false, cases_Bool}
use Rattle.roster.specs.Places.{place, place_from, without}
use Rattle.roster_laws.specs.Changing.{any}

module _ {L : Type 0} (p : L → Bool) where
  pub holds_any : (i : ℕ) (xs : List L) → is_some (place_from i p xs) ≡ any p xs
  holds_any i [] = refl
  holds_any i (x ∷ xs) =
      elim (p x) as (λ b. is_some (cond b (Some i) (place_from (i + 1) p xs)) ≡ (b || any p xs)) [ true ↦ refl | false ↦ holds_any (i + 1) xs ]

  record Out (xs : List L) (i k : ℕ) : Type 0 where
    from : i ≤ k
    left : remove_key p xs ≡ remove xs (k - i)

  out_here : (x : L) (xs : List L) (i k : ℕ) → p x ≡ true → i ≡ k → Out (x ∷ xs) i k
  out_here x xs i k t e =
      let z : k - i ≡ 0 = omega arith in
      record { from = omega arith; left = cond-true (p x) _ _ t ∙ sym (ap (remove (x ∷ xs)) z) }

  out_later : (x : L) (xs : List L) (i k : ℕ) → p x ≡ false → Out xs (i + 1) k → Out (x ∷ xs) i k
  out_later x xs i k t f =
      let z : k - i ≡ suc (k - (i + 1)) = omega (arith, f.from) in
      record {
        from = omega (arith, f.from);
        left = cond-false (p x) _ _ t ∙ ap (λ (ys : List L). x ∷ ys) f.left ∙ sym (ap (remove (x ∷ xs)) z);
      }

  out_some : (xs : List L) (i k : ℕ) → place_from i p xs ≡ Some k → Out xs i k
  out_some [] i k e = let z : ◌≡◌ {A = ℕ} 0 1 = cc in absurd (omega arith)
  out_some (x ∷ xs) i k e =
      elim (cases_Bool (p x)) [
        | inl t ↦ (let s : Some i ≡ Some k = sym (cond-true (p x) _ _ t) ∙ e in out_here x xs i k t (cc))
        | inr t ↦ out_later x xs i k t (out_some xs (i + 1) k (sym (cond-false (p x) _ _ t) ∙ e))
      ]

  out_none : (xs : List L) (i : ℕ) → place_from i p xs ≡ None → remove_key p xs ≡ xs
  out_none [] i e = refl
  out_none (x ∷ xs) i e =
      elim (cases_Bool (p x)) [
        | inl t ↦ (let s : Some i ≡ None = sym (cond-true (p x) _ _ t) ∙ e in let z : ◌≡◌ {A = ℕ} 0 1 = cc in absurd (omega arith))
        | inr t ↦ cond-false (p x) _ _ t ∙ ap (λ (ys : List L). x ∷ ys) (out_none xs (i + 1) (sym (cond-false (p x) _ _ t) ∙ e))
      ]

  out_at : (xs : List L) (o : Option ℕ) → place p xs ≡ o → without o xs ≡ remove_key p xs
  out_at xs None e = sym (out_none xs 0 e)
  out_at xs (Some k) e = sym ((out_some xs 0 k e).left ∙ ap (remove xs) (sub-zero k))

  pub without_first : (xs : List L) → without (place p xs) xs ≡ remove_key p xs
  without_first xs = out_at xs (place p xs) refl
