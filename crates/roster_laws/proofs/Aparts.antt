-- Changes keep the entries apart.
use Rattle.std.proofs.Common.{◌≡◌, ℕ, Bool, true, false, cond, ltb, List, [], ◌∷◌, ◌++◌, length, is_ok, fold, sym, refl, ◌∙◌, subst, inl, inr}
use Rattle.std.proofs.lemmas.Bool.{or_parts, or_from, cases_Bool, both_ways}
use Rattle.roster.specs.Checks.{list_answer}
use Rattle.std.specs.Set.{remove_key}
use Rattle.roster.specs.Places.{holds}
use Rattle.roster_laws.specs.declared.changes.Change.{Change}
use Rattle.roster_laws.specs.declared.changes.Change.TheVariants.{Enter, Leave}
use Rattle.roster_laws.specs.Changing.{any, made, after, changed}
use Rattle.roster_laws.specs.Laws.{Equivalence, Apart}
use Rattle.roster_laws.proofs.Firsts.{holds_any, without_first}

module _ {L : Type 0} where
  any_push : (p : L → Bool) (xs : List L) (x : L) → any p xs ≡ false → p x ≡ false → any p (xs ++ x ∷ []) ≡ false
  any_push p [] x h e = or_from (p x) false e refl
  any_push p (y ∷ ys) x h e = let q = or_parts (p y) (any p ys) h in or_from (p y) _ q.0 (any_push p ys x q.1 e)

  any_out : (p q : L → Bool) (xs : List L) → any q xs ≡ false → any q (remove_key p xs) ≡ false
  any_out p q [] h = refl
  any_out p q (x ∷ xs) h =
      let r = or_parts (q x) (any q xs) h in
      elim (p x) as (λ b. any q (cond b xs (x ∷ remove_key p xs)) ≡ false) [ true ↦ r.1 | false ↦ or_from (q x) _ r.0 (any_out p q xs r.1) ]

  apart_out : (same : L → L → Bool) (p : L → Bool) (xs : List L) → Apart same xs → Apart same (remove_key p xs)
  apart_out same p [] h = tt
  apart_out same p (x ∷ xs) h =
      elim (p x) as (λ b. Apart same (cond b xs (x ∷ remove_key p xs))) [ true ↦ h.1 | false ↦ (any_out p (same x) xs h.0, apart_out same p xs h.1) ]

entered_new : (sound entered free : Bool) → is_ok (list_answer sound entered free) ≡ true → entered ≡ false
entered_new true true m e = sym e
entered_new true false m e = refl
entered_new false true m e = sym e
entered_new false false m e = refl

module _ {L : Type 0} (sound : L → Bool) (same : L → L → Bool) (room : ℕ) (eq : Equivalence same) where
  not_back : (x y : L) → same x y ≡ false → same y x ≡ false
  not_back x y h = elim (cases_Bool (same y x)) [ inl t ↦ absurd (both_ways (same x y) h (eq.symmetric y x t)) | inr f ↦ f ]

  apart_push : (xs : List L) (x : L) → Apart same xs → any (same x) xs ≡ false → Apart same (xs ++ x ∷ [])
  apart_push [] x h e = (refl, tt)
  apart_push (y ∷ ys) x h e =
      let q = or_parts (same x y) (any (same x) ys) e in
      (any_push (same y) ys x h.0 (not_back x y q.0), apart_push ys x h.1 q.1)

  pub apart_after : (xs : List L) (c : Change L) → Apart same xs → made sound same room xs c ≡ true → Apart same (after same xs c)
  apart_after xs (Enter x) h t =
      apart_push xs x h (sym (holds_any (same x) 0 xs) ∙ entered_new (sound x) (holds (same x) xs) (ltb (length xs) room) t)
  apart_after xs (Leave x) h t = subst (Apart same) (sym (without_first (same x) xs)) (apart_out same (same x) xs h)

  apart_changed : (xs : List L) (c : Change L) (b : Bool) → Apart same xs → made sound same room xs c ≡ b → Apart same (cond b (after same xs c) xs)
  apart_changed xs c true h t = apart_after xs c h t
  apart_changed xs c false h t = h

  pub apart_all : (xs : List L) (cs : List (Change L)) → Apart same xs → Apart same (fold (changed sound same room) xs cs)
  apart_all xs [] h = h
  apart_all xs (c ∷ cs) h = apart_all (changed sound same room xs c) cs (apart_changed xs c (made sound same room xs c) h refl)
