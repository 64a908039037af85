-- Changes keep the entries well formed.
use Rattle.std.proofs.Common.{◌≡◌, ℕ, Bool, true, false, cond, ltb, List, [], ◌∷◌, ◌++◌, length, is_ok, fold, sym, refl, subst}
use Rattle.roster.specs.Checks.{list_answer}
use Rattle.std.specs.Set.{remove_key}
use Rattle.roster.specs.Places.{holds}
use Rattle.roster_laws.specs.declared.changes.Change.{Change}
use Rattle.roster_laws.specs.declared.changes.Change.TheVariants.{Enter, Leave}
use Rattle.roster_laws.specs.Changing.{made, after, changed}
use Rattle.roster_laws.specs.Laws.{Formed}
use Rattle.roster_laws.proofs.Firsts.{without_first}

entered_sound : (sound entered free : Bool) → is_ok (list_answer sound entered free) ≡ true → sound ≡ true
entered_sound true h m e = refl
entered_sound false h m e = e

module _ {L : Type 0} (sound : L → Bool) (same : L → L → Bool) (room : ℕ) where
  formed_push : (xs : List L) (x : L) → Formed sound xs → sound x ≡ true → Formed sound (xs ++ x ∷ [])
  formed_push [] x h t = (t, tt)
  formed_push (y ∷ ys) x h t = (h.0, formed_push ys x h.1 t)

  formed_out : (p : L → Bool) (xs : List L) → Formed sound xs → Formed sound (remove_key p xs)
  formed_out p [] h = tt
  formed_out p (x ∷ xs) h =
      elim (p x) as (λ b. Formed sound (cond b xs (x ∷ remove_key p xs))) [ true ↦ h.1 | false ↦ (h.0, formed_out p xs h.1) ]

  formed_changed : (xs : List L) (c : Change L) (b : Bool) → Formed sound xs → made sound same room xs c ≡ b → Formed sound (cond b (after same xs c) xs)
  formed_changed xs (Enter x) true h t = formed_push xs x h (entered_sound (sound x) (holds (same x) xs) (ltb (length xs) room) t)
  formed_changed xs (Leave x) true h t = subst (Formed sound) (sym (without_first (same x) xs)) (formed_out (same x) xs h)
  formed_changed xs c false h t = h

  pub formed_all : (xs : List L) (cs : List (Change L)) → Formed sound xs → Formed sound (fold (changed sound same room) xs cs)
  formed_all xs [] h = h
  formed_all xs (c ∷ cs) h = formed_all (changed sound same room xs c) cs (formed_changed xs c (made sound same room xs c) h refl)
