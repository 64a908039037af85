-- The same records in the widest window give the same answer.
use Rattle.std.proofs.Common.{◌≡◌, ℕ, zero, suc, ◌+◌, ◌*◌, ◌≤◌, Bool, true, false, cond, List, [], ◌∷◌, Err, sum_by, filter, sym, refl, ap, ◌∙◌, arith}
use Rattle.std.specs.Option.{option_map, ok_or}
use Rattle.std.proofs.lemmas.List.Sums.{sum_by-cons}
use Rattle.std.proofs.lemmas.Bool.Decides.{nat_tests}
use Rattle.tape.specs.Codes.{refused}
use Rattle.tape.specs.Format.{Plain}
use Rattle.tape.specs.Reading.{parse, sound}
use Rattle.reference.specs.declared.finding.Tier.{Tier}
use Rattle.reference.specs.declared.finding.Request.{Request}
use Rattle.reference.specs.Priced.{Kind, mean_of, total_of, weights_of, mean}
use Rattle.reference.specs.Finding.{kind, tiers, answer, else_by, first_tier, means_of, asked, window, first_window, fit, searched, due}
use Rattle.tape_laws.specs.Alike.{Alike, SameRecords}
use Rattle.tape_laws.proofs.Counts.{sum_alike, alike_kept}

module _ {X : Type 0} where
  kept_one : (p q : Bool) (x : X) (ps : List X) (test : X → Bool) (rest : List X) → test x ≡ p → (p ≡ true → q ≡ true) → filter test rest ≡ ps → filter test (cond q (x ∷ rest) rest) ≡ cond p (x ∷ ps) ps
  kept_one p true x ps test rest e imp h = ap (λ t. cond t (x ∷ filter test rest) (filter test rest)) e ∙ ap (λ l. cond p (x ∷ l) l) h
  kept_one true false x ps test rest e imp h = absurd (let z = imp refl in let w : ◌≡◌ {A = ℕ} 0 1 = cc in omega arith)
  kept_one false false x ps test rest e imp h = h

  -- a filter behind a wider one
  kept_kept : (p q : X → Bool) → ((x : X) → p x ≡ true → q x ≡ true) → (xs : List X) → filter p (filter q xs) ≡ filter p xs
  kept_kept p q imp [] = refl
  kept_kept p q imp (x ∷ xs) = kept_one (p x) (q x) x (filter p xs) p (filter q xs) refl (imp x) (kept_kept p q imp xs)

  sum_one : (t : Bool) (f : X → ℕ) (x : X) (ys : List X) → sum_by f (cond t (x ∷ ys) ys) ≡ cond t (f x) 0 + sum_by f ys
  sum_one true f x ys = sum_by-cons f x ys
  sum_one false f x ys = omega arith

  sum_kept : (f : X → ℕ) (p : X → Bool) (xs : List X) → sum_by f (filter p xs) ≡ sum_by (λ x. cond (p x) (f x) 0) xs
  sum_kept f p [] = refl
  sum_kept f p (x ∷ xs) = omega (arith, sum_one (p x) f x (filter p xs), sum_kept f p xs, sum_by-cons (λ x. cond (p x) (f x) 0) x xs)

-- a window lies in each wider one
inner : (s : List ℕ) (c w k : ℕ) (r : Plain) → w ≤ k → asked s c w r ≡ true → asked s c k r ≡ true
inner s c w k r le h = grind (arith, nat_tests)

module _ (s : List ℕ) (c k : ℕ) (rs qs : List Plain) (alike : Alike (window s c k rs) (window s c k qs)) where
  sum_window : (f : Plain → ℕ) (w : ℕ) → w ≤ k → sum_by f (window s c w rs) ≡ sum_by f (window s c w qs)
  sum_window f w le =
      let p = asked s c w in
      let q = asked s c k in
      let a = kept_kept p q (λ r. inner s c w k r le) rs in
      let b = kept_kept p q (λ r. inner s c w k r le) qs in
      ap (sum_by f) (sym a) ∙ sum_kept f p (window s c k rs) ∙ sum_alike (λ r. cond (p r) (f r) 0) (window s c k rs) (window s c k qs) alike
      ∙ sym (sum_kept f p (window s c k qs)) ∙ ap (sum_by f) b

  mean_window : (m : Kind) (w : ℕ) → w ≤ k → mean m (window s c w rs) ≡ mean m (window s c w qs)
  mean_window m w le =
      ap (λ t. mean_of m.divisor t (weights_of m (window s c w rs))) (sum_window (λ r. m.weight r * m.value r) w le)
      ∙ ap (λ n. mean_of m.divisor (total_of m (window s c w qs)) n) (sum_window m.weight w le)

  tier_window : (w : ℕ) (ts : List Tier) → w ≤ k → first_tier (means_of (window s c w rs)) w ts ≡ first_tier (means_of (window s c w qs)) w ts
  tier_window w [] le = refl
  tier_window w (t ∷ ts) le =
      ap (λ m. else_by (option_map (answer t w) m) (first_tier (means_of (window s c w rs)) w ts)) (mean_window (kind t) w le)
      ∙ ap (else_by (option_map (answer t w) (mean (kind t) (window s c w qs)))) (tier_window w ts le)

  windows_same : (w n : ℕ) → w + n ≤ k + 1 → first_window s c rs w n ≡ first_window s c qs w n
  windows_same w zero le = refl
  windows_same w (suc n) le =
      ap (λ x. else_by x (first_window s c rs (w + 1) n)) (tier_window w tiers (omega arith))
      ∙ ap (else_by (first_tier (means_of (window s c w qs)) w tiers)) (windows_same (w + 1) n (omega arith))

pub same_due : (q : Request) (a b : List ℕ) (rs qs : List Plain) → parse a ≡ sound rs → parse b ≡ sound qs → SameRecords q rs qs → due q a ≡ due q b
same_due q a b rs qs pa pb same =
    let s = q.symbol.now in
    let c = q.close in
    let k = q.windows in
    let alike = alike_kept (asked s c k) rs qs same in
    ap (λ o. cond (fit q) (searched s c o 1 k) (Err (refused 8))) pa
    ∙ ap (λ x. cond (fit q) (ok_or x (refused 9)) (Err (refused 8))) (windows_same s c k rs qs alike 1 k (omega arith))
    ∙ sym (ap (λ o. cond (fit q) (searched s c o 1 k) (Err (refused 8))) pb)
