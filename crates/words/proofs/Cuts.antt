-- The parts of a text, as `split_once` and `strip_prefix` give them.
use Rattle.std.proofs.Common.{◌≡◌, ℕ, suc, ◌<◌, true, false, eqb, List, [], ◌∷◌, ◌++◌, length, get_or, Some, None, Option, Bor, refl, ap, ◌∙◌, arith}
use Rattle.std.proofs.lemmas.Bool.{ne_eqb, eq-eqb}
use Rattle.std.proofs.lemmas.Str.Pattern.{IsSplitOnceResult, split_parts}
use Rattle.std.specs.Option.{MatchOption}
use Rattle.words.specs.Cuts.{before, after, past}

abbrev pub Lacks : ℕ → List ℕ → Type 0
Lacks c xs = (i : ℕ) → i < length xs → get_or xs i 0 ≡ c → ⊥

pub before_split : (c : ℕ) (xs ys : List ℕ) → Lacks c xs → before c (xs ++ (c ∷ ys)) ≡ xs
before_split c [] ys h = rw (eq-eqb c c refl)
before_split c (x ∷ xs) ys h =
    let apart : eqb x c ≡ false = ne_eqb x c (h 0 (omega arith)) in
    rw (apart, before_split c xs ys (λ i l. h (suc i) (omega arith)))

pub after_split : (c : ℕ) (xs ys : List ℕ) → Lacks c xs → after c (xs ++ (c ∷ ys)) ≡ Some ys
after_split c [] ys h = rw (eq-eqb c c refl)
after_split c (x ∷ xs) ys h =
    let apart : eqb x c ≡ false = ne_eqb x c (h 0 (omega arith)) in
    rw apart (after_split c xs ys (λ i l. h (suc i) (omega arith)))

pub before_whole : (c : ℕ) (xs : List ℕ) → Lacks c xs → before c xs ≡ xs
before_whole c [] h = refl
before_whole c (x ∷ xs) h =
    let apart : eqb x c ≡ false = ne_eqb x c (h 0 (omega arith)) in
    rw (apart, before_whole c xs (λ i l. h (suc i) (omega arith)))

pub after_whole : (c : ℕ) (xs : List ℕ) → Lacks c xs → after c xs ≡ None
after_whole c [] h = refl
after_whole c (x ∷ xs) h =
    let apart : eqb x c ≡ false = ne_eqb x c (h 0 (omega arith)) in
    rw apart (after_whole c xs (λ i l. h (suc i) (omega arith)))

-- what `split_once` gives
pub cut : (c : ℕ) (text : List ℕ) (r : Option (Bor (List ℕ) × Bor (List ℕ))) → IsSplitOnceResult c text r → c < 128 → MatchOption r ((before c text ≡ text) × (after c text ≡ None)) (λ x. (before c text ≡ x.0.now) × (after c text ≡ Some x.1.now))
cut c text None h low = let apart = split_parts c text None h low in (before_whole c text apart, after_whole c text apart)
cut c text (Some x) h low =
    let parts = split_parts c text (Some x) h low in
    (ap (before c) parts.0 ∙ before_split c x.0.now x.1.now parts.1, ap (after c) parts.0 ∙ after_split c x.0.now x.1.now parts.1)

pub past_front : (front rest : List ℕ) → past front (front ++ rest) ≡ Some rest
past_front [] rest = refl
past_front (c ∷ front) rest = let is : eqb c c ≡ true = eq-eqb c c refl in rw is (past_front front rest)
