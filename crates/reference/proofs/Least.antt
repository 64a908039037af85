-- The lowest place is that which is among the places and below none of them.
use Rattle.std.proofs.Common.{◌≡◌, ℕ, zero, suc, ◌+◌, ◌<◌, ◌≤◌, List, length, get_or, take, Some, None, Option, ap, ◌∙◌, inl, inr, arith, length-take}
use Rattle.std.proofs.lemmas.Bool.{cases_eq}
use Rattle.std.proofs.lemmas.List.{get_or-take}
use Rattle.std.specs.Option.{MatchOption, unwrap_or}
use Rattle.reference.specs.Edges.{lowest}

lowest_below : (ps : List ℕ) (w k : ℕ) → k ≤ w → lowest ps w ≤ get_or ps k 0
lowest_below ps zero k h = let z : k ≡ 0 = omega arith in rw z (omega arith)
lowest_below ps (suc w) k h =
    elim (cases_eq k (suc w)) [
      | inl is ↦ rw is (omega arith)
      | inr other ↦ omega (arith, lowest_below ps w k (omega arith))
    ]

lowest_above : (ps : List ℕ) (w m : ℕ) → ((k : ℕ) → k ≤ w → m ≤ get_or ps k 0) → m ≤ lowest ps w
lowest_above ps zero m h = h 0 (omega arith)
lowest_above ps (suc w) m h = omega (arith, h (suc w) (omega arith), lowest_above ps w m (λ k le. h k (omega arith)))

pub lowest_is : (ps xs : List ℕ) (w : ℕ) (m : Option ℕ) → w < length ps → xs ≡ take (w + 1) ps → MatchOption m (length xs ≡ 0) (λ m. (k : ℕ) → k < length xs → m ≤ get_or xs k 0) → MatchOption m (length xs ≡ 0) (λ m. (k : ℕ) × (k < length xs) × (get_or xs k 0 ≡ m)) → unwrap_or m 0 ≡ lowest ps w
lowest_is ps xs w None long is low among = absurd (omega (arith, ap length is, length-take (w + 1) ps, low))
lowest_is ps xs w (Some m) long is low among =
    let many : length xs ≡ w + 1 = omega (arith, ap length is, length-take (w + 1) ps) in
    let same : (k : ℕ) → k ≤ w → get_or xs k 0 ≡ get_or ps k 0 = λ k le. ap (λ l. get_or l k 0) is ∙ get_or-take (w + 1) ps k 0 (omega arith) in
    let few : among.0 ≤ w = omega (arith, many, among.1) in
    let above = lowest_above ps w m (λ k le. omega (arith, same k le, low k (omega (arith, many)))) in
    omega (arith, above, lowest_below ps w among.0 few, same among.0 few, among.2)
