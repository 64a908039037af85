-- The entries that stand are those entered and not taken out later, in the order of entering.
use Rattle.std.proofs.Common.{◌≡◌, ℕ, Bool, true, false, cond, not, ◌||◌, List, [], ◌∷◌, ◌++◌, fold, sym, refl, ap, ◌∙◌, inl, inr, append_assoc, append-nil}
use Rattle.std.specs.List.{filter}
use Rattle.std.proofs.lemmas.List.Elements.{filter-append}
use Rattle.std.proofs.lemmas.Bool.{or_parts, or_from, cases_Bool, both_ways}
use Rattle.std.specs.Set.{remove_key}
use Rattle.roster_laws.specs.declared.changes.Change.{Change}
use Rattle.roster_laws.specs.declared.changes.Change.TheVariants.{Enter, Leave}
use Rattle.roster_laws.specs.Changing.{any, made, after, changed, made_from, takes_out, remaining, standing}
use Rattle.roster_laws.specs.Laws.{Equivalence, Apart}
use Rattle.roster_laws.proofs.Firsts.{without_first}
use Rattle.roster_laws.proofs.Aparts.{apart_after}

-- those that do not pass
abbrev pub but : {L : Type 0} → (L → Bool) → List L → List L
but p xs = filter (λ x. not (p x)) xs

module _ {L : Type 0} where
  but_none : (xs : List L) → but (λ _. false) xs ≡ xs
  but_none [] = refl
  but_none (x ∷ xs) = ap (λ (ys : List L). x ∷ ys) (but_none xs)

  -- where none passes p, leaving those out as well changes nothing
  but_either : (p q : L → Bool) (xs : List L) → any p xs ≡ false → but (λ x. p x || q x) xs ≡ but q xs
  but_either p q [] h = refl
  but_either p q (x ∷ xs) h =
      let r = or_parts (p x) (any p xs) h in
      ap (λ (b : Bool). cond (not (b || q x)) (x ∷ but (λ y. p y || q y) xs) (but (λ y. p y || q y) xs)) r.0
      ∙ ap (λ (ys : List L). cond (not (q x)) (x ∷ ys) ys) (but_either p q xs r.1)

  last_entered : (x : L) (rest : List L) (b : Bool) → cond (not b) (x ∷ []) [] ++ rest ≡ cond b rest (x ∷ rest)
  last_entered x rest true = refl
  last_entered x rest false = refl

module _ {L : Type 0} (sound : L → Bool) (same : L → L → Bool) (room : ℕ) (eq : Equivalence same) where
  -- an entry that is the same as y is the only one
  only_one : (y z : L) (xs : List L) → same y z ≡ true → any (same z) xs ≡ false → any (same y) xs ≡ false
  only_one y z [] t h = refl
  only_one y z (x ∷ xs) t h =
      let r = or_parts (same z x) (any (same z) xs) h in
      let other : same y x ≡ false =
      elim (cases_Bool (same y x)) [ inl e ↦ absurd (both_ways (same z x) r.0 (eq.transitive z y x (eq.symmetric y z t) e)) | inr f ↦ f ] in
      or_from (same y x) _ other (only_one y z xs t r.1)

  but_first : (y : L) (q : L → Bool) (xs : List L) → Apart same xs → but q (remove_key (same y) xs) ≡ but (λ x. same y x || q x) xs
  but_first y q [] h = refl
  but_first y q (x ∷ xs) h =
      elim (cases_Bool (same y x)) [
        | inl t ↦
            ap (λ (b : Bool). but q (cond b xs (x ∷ remove_key (same y) xs))) t
            ∙ sym (but_either (same y) q xs (only_one y x xs t h.0))
            ∙ sym (ap (λ (b : Bool). cond (not (b || q x)) (x ∷ but (λ z. same y z || q z) xs) (but (λ z. same y z || q z) xs)) t)
        | inr f ↦
            ap (λ (b : Bool). but q (cond b xs (x ∷ remove_key (same y) xs))) f
            ∙ ap (λ (ys : List L). cond (not (q x)) (x ∷ ys) ys) (but_first y q xs h.1)
            ∙ sym (ap (λ (b : Bool). cond (not (b || q x)) (x ∷ but (λ z. same y z || q z) xs) (but (λ z. same y z || q z) xs)) f)
      ]

  -- what the changes ms, all made, leave of the entries xs and add to them
  abbrev left : List L → List (Change L) → List L
  left xs ms = but (λ x. any (takes_out same x) ms) xs ++ remaining same ms

  one_made : (xs : List L) (c : Change L) (ms : List (Change L)) → Apart same xs → left (after same xs c) ms ≡ left xs (c ∷ ms)
  one_made xs (Enter x) ms h =
      let q : L → Bool = λ z. any (takes_out same z) ms in
      ap (λ (ys : List L). ys ++ remaining same ms) (filter-append (λ z. not (q z)) xs (x ∷ []))
      ∙ append_assoc (but q xs) (but q (x ∷ [])) (remaining same ms)
      ∙ ap (λ (ys : List L). but q xs ++ ys) (last_entered x (remaining same ms) (q x))
  one_made xs (Leave y) ms h =
      let q : L → Bool = λ z. any (takes_out same z) ms in
      ap (λ (ys : List L). but q ys ++ remaining same ms) (without_first (same y) xs)
      ∙ ap (λ (ys : List L). ys ++ remaining same ms) (but_first y q xs h)

  -- the changes cs, from apart entries on
  abbrev Goes : List (Change L) → Type 0
  Goes cs = (xs : List L) → Apart same xs → fold (changed sound same room) xs cs ≡ left xs (made_from sound same room xs cs)

  turn : (xs : List L) (c : Change L) (cs : List (Change L)) (b : Bool) → Apart same xs → made sound same room xs c ≡ b → Goes cs → fold (changed sound same room) (cond b (after same xs c) xs) cs ≡ left xs (cond b (c ∷ made_from sound same room (after same xs c) cs) (made_from sound same room xs cs))
  turn xs c cs true h t go =
      go (after same xs c) (apart_after sound same room eq xs c h t) ∙ one_made xs c (made_from sound same room (after same xs c) cs) h
  turn xs c cs false h t go = go xs h

  goes : (cs : List (Change L)) → Goes cs
  goes [] xs h = sym (ap (λ (ys : List L). ys ++ []) (but_none xs) ∙ append-nil xs)
  goes (c ∷ cs) xs h = turn xs c cs (made sound same room xs c) h refl (goes cs)

  pub in_order : (cs : List (Change L)) → standing sound same room cs ≡ remaining same (made_from sound same room [] cs)
  in_order cs = goes cs [] tt
