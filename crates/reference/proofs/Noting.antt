-- One pass over a tape's records finds the edges of every window.
use Rattle.std.proofs.Common.{◌≡◌, ℕ, zero, suc, ◌+◌, ◌-◌, ◌*◌, ◌/◌, ◌<◌, ◌≤◌, min, true, false, cond, leb, ◌≢◌, List, [], ◌∷◌, length, get_or, set, Ok, Err, fold, filter, Result, sym, refl, ap, ◌∙◌, subst, inl, inr, arith, get_or-set_other, get_or-set_same}
use Rattle.std.proofs.lemmas.List.{length-set}
use Rattle.std.proofs.lemmas.List.Sums.{sum_by-cons}
use Rattle.std.proofs.lemmas.Bool.{cases_lt, cases_eq, lt-ltb, le-ltb}
use Rattle.std.proofs.lemmas.Bool.Decides.{nat_tests}
use Rattle.tape.specs.Codes.{Refusal}
use Rattle.tape.specs.Format.{Plain, time_of, size_of}
use Rattle.tape.specs.Reading.{Outcome, sound, faulty, put}
use Rattle.tape.specs.Sound.{InOrder}
use Rattle.reference.specs.Windows.{earlier, bytes_of}
use Rattle.reference.specs.Edges.{window_of, lowest}
use Rattle.reference.proofs.Parts.{none_earlier}

-- a time lies in the window w, or behind the close, exactly when the first window that has it is at most w
window_in : (c t w : ℕ) → c - 30000 * w ≤ t → window_of c t ≤ w
window_in c t w h =
    elim (cases_lt t c) [
      | inl before ↦ let e : leb c t ≡ false = grind (arith, nat_tests) in subst (λ x. cond x 0 (1 + (c - 1 - t) / 30000) ≤ w) (sym e) (omega arith)
      | inr after ↦ let e : leb c t ≡ true = grind (arith, nat_tests) in subst (λ x. cond x 0 (1 + (c - 1 - t) / 30000) ≤ w) (sym e) (omega arith)
    ]

window_out : (c t w : ℕ) → t < c - 30000 * w → w < window_of c t
window_out c t w h = let e : leb c t ≡ false = grind (arith, nat_tests) in subst (λ x. w < cond x 0 (1 + (c - 1 - t) / 30000)) (sym e) (omega arith)

-- a place noted at s
abbrev pub noted : List ℕ → ℕ → ℕ → List ℕ
noted ps s p = set ps s (min (get_or ps s 0) p)

lowest_out : (ps : List ℕ) (s p w : ℕ) → w < s → lowest (noted ps s p) w ≡ lowest ps w
lowest_out ps s p zero h = let ne : 0 ≢ s = omega arith in get_or-set_other ps s 0 (min (get_or ps s 0) p) 0 ne
lowest_out ps s p (suc w) h =
    let ne : suc w ≢ s = omega arith in
    let a = get_or-set_other ps s (suc w) (min (get_or ps s 0) p) 0 ne in
    let b = lowest_out ps s p w (omega arith) in
    cc

lowest_in : (ps : List ℕ) (s p w : ℕ) → s ≤ w → w < length ps → lowest (noted ps s p) w ≡ min (lowest ps w) p
lowest_in ps s p zero h l =
    let z : s ≡ 0 = omega arith in
    ap (λ s. get_or (noted ps s p) 0 0) z ∙ get_or-set_same ps 0 (min (get_or ps 0 0) p) 0 l
lowest_in ps s p (suc w) h l =
    elim (cases_eq s (suc w)) [
      | inl is ↦
          let a = ap (λ s. get_or (noted ps s p) (suc w) 0) is ∙ get_or-set_same ps (suc w) (min (get_or ps (suc w) 0) p) 0 l in
          let b = lowest_out ps s p w (omega arith) in
          omega (arith, a, b)
      | inr other ↦
          let ne : suc w ≢ s = omega arith in
          let a = get_or-set_other ps s (suc w) (min (get_or ps s 0) p) 0 ne in
          let b = lowest_in ps s p w (omega arith) (omega arith) in
          omega (arith, a, b)
    ]

-- the place of the next record, and the places noted so far
pub record Seen : Type 0 where
  pub next : ℕ
  pub places : List ℕ

abbrev pub noting : ℕ → Seen → Plain → Seen
noting c s r = record { next = s.next + size_of r; places = noted s.places (window_of c (time_of r)) s.next }

-- an edge that is found stays
edge_stays : (c w : ℕ) (rs : List Plain) (s : Seen) → w < length s.places → lowest s.places w ≤ s.next → lowest (fold (noting c) s rs).places w ≡ lowest s.places w
edge_stays c w [] s l h = refl
edge_stays c w (r ∷ rs) s l h =
    let k = window_of c (time_of r) in
    let same : lowest (noted s.places k s.next) w ≡ lowest s.places w =
    elim (cases_lt w k) [
      | inl out ↦ lowest_out s.places k s.next w out
      | inr inside ↦ omega (arith, lowest_in s.places k s.next w inside l)
    ] in
    edge_stays c w rs (noting c s r) (omega (arith, length-set s.places k (min (get_or s.places k 0) s.next))) (omega (arith, same)) ∙ same

-- before, it stands at the end of all records
pub edge_found : (c w last : ℕ) (rs : List Plain) (s : Seen) → InOrder last rs → w < length s.places → lowest s.places w ≡ s.next + bytes_of rs → lowest (fold (noting c) s rs).places w ≡ s.next + bytes_of (filter (earlier (c - 30000 * w)) rs)
edge_found c w last [] s o l h = h
edge_found c w last (r ∷ rs) s o l h =
    let k = window_of c (time_of r) in
    let low = c - 30000 * w in
    let ks = filter (earlier low) rs in
    let long : w < length (noted s.places k s.next) = omega (arith, length-set s.places k (min (get_or s.places k 0) s.next)) in
    elim (cases_lt (time_of r) low) [
      | inl before ↦
          let same = lowest_out s.places k s.next w (window_out c (time_of r) w before) in
          let a : earlier low r ≡ true = lt-ltb (time_of r) low before in
          let ih = edge_found c w (time_of r) rs (noting c s r) o.3 long (omega (arith, same, h, sum_by-cons size_of r rs)) in
          ih ∙ omega (arith, sum_by-cons size_of r ks) ∙ ap (λ x. s.next + bytes_of (cond x (r ∷ ks) ks)) (sym a)
      | inr after ↦
          let here : lowest (noted s.places k s.next) w ≡ s.next = omega (arith, lowest_in s.places k s.next w (window_in c (time_of r) w after) l, h) in
          let a : earlier low r ≡ false = le-ltb (time_of r) low after in
          let none : ks ≡ [] = none_earlier low (time_of r) rs after o.3 in
          let stays = edge_stays c w rs (noting c s r) long (omega (arith, here)) in
          let zero_more : s.next ≡ s.next + bytes_of [] = omega arith in
          stays ∙ here ∙ zero_more ∙ ap (λ l. s.next + bytes_of l) (sym none) ∙ ap (λ x. s.next + bytes_of (cond x (r ∷ ks) ks)) (sym a)
    ]

-- what a loop over the tape makes of it
abbrev pub places_from : ℕ → Seen → Outcome → Result (List ℕ) Refusal
places_from c s (sound rs) = Ok (fold (noting c) s rs).places
places_from c s (faulty f) = Err f

pub places_put : (c : ℕ) (s : Seen) (r : Plain) (o : Outcome) → places_from c s (put r o) ≡ places_from c (noting c s r) o
places_put c s r (sound rs) = refl
places_put c s r (faulty f) = refl

pub lowest_same : (ps : List ℕ) (t w n : ℕ) → ((i : ℕ) → i < n → get_or ps i 0 ≡ t) → w < n → lowest ps w ≡ t
lowest_same ps t zero n h l = h 0 l
lowest_same ps t (suc w) n h l = omega (arith, lowest_same ps t w n h (omega arith), h (suc w) l)
