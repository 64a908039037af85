-- On a sound tape times never go back, so a window's records stand together: the part between its edges holds them.
use Rattle.std.proofs.Common.{◌≡◌, ℕ, suc, ◌+◌, ◌≤◌, Bool, true, false, cond, not, List, [], ◌∷◌, ◌++◌, length, take, drop, filter, sym, refl, ap, ◌∙◌, subst, inl, inr, arith, length-append}
use Rattle.std.specs.List.{flat_map}
use Rattle.std.proofs.lemmas.List.Filters.{sum_by-filter_both}
use Rattle.std.proofs.lemmas.List.{drop-drop, drop_at}
use Rattle.std.proofs.lemmas.List.Sums.{sum_by-cons}
use Rattle.std.proofs.lemmas.Bool.{cond_both, cases_lt, lt-ltb, le-ltb}
use Rattle.std.proofs.lemmas.Bool.Decides.{nat_tests}
use Rattle.tape.specs.Format.{Plain, time_of, size_of, encode}
use Rattle.tape.specs.Reading.{sound}
use Rattle.tape.specs.Sound.{InOrder, Sound}
use Rattle.tape.proofs.Back.{walk_encode, length_joined}
use Rattle.tape.proofs.Splices.{length_encode}
use Rattle.reference.specs.Sums.{row_of}
use Rattle.reference.specs.Windows.{within, earlier, bytes_of, edge}

pub none_earlier : (t last : ℕ) (rs : List Plain) → t ≤ last → InOrder last rs → filter (earlier t) rs ≡ []
none_earlier t last [] h c = refl
none_earlier t last (r ∷ rs) h c =
    ap (λ x. cond x (r ∷ filter (earlier t) rs) (filter (earlier t) rs)) (le-ltb (time_of r) t (omega (arith, c.2)))
    ∙ none_earlier t (time_of r) rs (omega (arith, c.2)) c.3

late : (low high : ℕ) (r : Plain) → high ≤ time_of r → within low high r ≡ false
late low high r h = grind (arith, nat_tests)

none_within : (low high last : ℕ) (rs : List Plain) → high ≤ last → InOrder last rs → filter (within low high) rs ≡ []
none_within low high last [] h c = refl
none_within low high last (r ∷ rs) h c =
    ap (λ x. cond x (r ∷ filter (within low high) rs) (filter (within low high) rs)) (late low high r (omega (arith, c.2)))
    ∙ none_within low high (time_of r) rs (omega (arith, c.2)) c.3

drop_past : (xs ys : List ℕ) (k n : ℕ) → length xs ≡ k → drop (k + n) (xs ++ ys) ≡ drop n ys
drop_past xs ys k n e = sym (drop-drop n k (xs ++ ys)) ∙ ap (drop n) (drop_at xs ys k e)

take_past : (xs ys : List ℕ) (n : ℕ) → take (length xs + n) (xs ++ ys) ≡ xs ++ take n ys
take_past [] ys n = let e : 0 + n ≡ n = omega arith in ap (λ k. take k ys) e
take_past (x ∷ xs) ys n =
    let e : suc (length xs) + n ≡ suc (length xs + n) = omega arith in
    ap (λ k. take k (x ∷ (xs ++ ys))) e ∙ ap (λ l. x ∷ l) (take_past xs ys n)

-- behind the bytes of the records es, the bytes of the records ws are theirs
abbrev Held : List Plain → List Plain → List Plain → Type 0
Held es ws rs = take (bytes_of ws) (drop (bytes_of es) (flat_map encode rs)) ≡ flat_map encode ws

holds : (low high last : ℕ) (rs : List Plain) → low ≤ high → InOrder last rs → Held (filter (earlier low) rs) (filter (within low high) rs) rs
holds low high last [] le c = refl
holds low high last (r ∷ rs) le c =
    let es = filter (earlier low) rs in
    let ws = filter (within low high) rs in
    let ih = holds low high (time_of r) rs le c.3 in
    elim (cases_lt (time_of r) low) [
      | inl before ↦
          let a : earlier low r ≡ true = lt-ltb (time_of r) low before in
          let b : within low high r ≡ false = grind (arith, nat_tests) in
          subst (λ x. Held (cond x (r ∷ es) es) (cond (within low high r) (r ∷ ws) ws) (r ∷ rs)) (sym a)
          (subst (λ y. Held (r ∷ es) (cond y (r ∷ ws) ws) (r ∷ rs)) (sym b)
          (ap (λ n. take (bytes_of ws) (drop n (flat_map encode (r ∷ rs)))) (sum_by-cons size_of r es) ∙ ap (take (bytes_of ws)) (drop_past (encode r) (flat_map encode rs) (size_of r) (bytes_of es) (length_encode r)) ∙ ih))
      | inr after ↦
          let a : earlier low r ≡ false = le-ltb (time_of r) low after in
          let e0 : es ≡ [] = none_earlier low (time_of r) rs after c.3 in
          subst (λ x. Held (cond x (r ∷ es) es) (cond (within low high r) (r ∷ ws) ws) (r ∷ rs)) (sym a)
          (subst (λ e. Held e (cond (within low high r) (r ∷ ws) ws) (r ∷ rs)) (sym e0)
          (elim (cases_lt (time_of r) high) [
            | inl in_time ↦
                let b : within low high r ≡ true = grind (arith, nat_tests) in
                let ih0 : take (bytes_of ws) (flat_map encode rs) ≡ flat_map encode ws = subst (λ e. Held e ws rs) e0 ih in
                subst (λ y. Held [] (cond y (r ∷ ws) ws) (r ∷ rs)) (sym b)
                (ap (λ n. take n (flat_map encode (r ∷ rs))) (sum_by-cons size_of r ws ∙ ap (λ k. k + bytes_of ws) (sym (length_encode r))) ∙ take_past (encode r) (flat_map encode rs) (bytes_of ws) ∙ ap (λ l. encode r ++ l) ih0)
            | inr too_late ↦
                let b : within low high r ≡ false = late low high r too_late in
                let w0 : ws ≡ [] = none_within low high (time_of r) rs too_late c.3 in
                subst (λ y. Held [] (cond y (r ∷ ws) ws) (r ∷ rs)) (sym b) (subst (λ w. Held [] w (r ∷ rs)) (sym w0) refl)
          ]))
    ]

pub part_holds : (b : List ℕ) (rs : List Plain) (low high : ℕ) → low ≤ high → Sound b rs → take (bytes_of (filter (within low high) rs)) (drop (edge low rs) b) ≡ flat_map encode (filter (within low high) rs)
part_holds b rs low high le s =
    let n = bytes_of (filter (within low high) rs) in
    ap (λ b. take n (drop (edge low rs) b)) s.bytes
    ∙ ap (take n) (drop_past (1 ∷ []) (flat_map encode rs) 1 (bytes_of (filter (earlier low) rs)) refl)
    ∙ holds low high 0 rs le s.inorder

looser : (a b : ℕ) (rs : List Plain) → b ≤ a → InOrder a rs → InOrder b rs
looser a b [] h c = tt
looser a b (r ∷ rs) h c = (c.0, c.1, omega (arith, c.2), c.3)

kept_inorder : (p : Plain → Bool) (last : ℕ) (rs : List Plain) → InOrder last rs → InOrder last (filter p rs)
kept_inorder p last [] c = tt
kept_inorder p last (r ∷ rs) c =
    cond_both (p r) (r ∷ filter p rs) (filter p rs) (InOrder last) (λ _. (c.0, c.1, c.2, kept_inorder p (time_of r) rs c.3))
    (λ _. looser (time_of r) last (filter p rs) c.2 (kept_inorder p (time_of r) rs c.3))

-- read as a row of records, the part gives the window's
pub row_holds : (p : Plain → Bool) (rs : List Plain) → InOrder 0 rs → row_of (flat_map encode (filter p rs)) ≡ sound (filter p rs)
row_holds p rs c = let ws = filter p rs in walk_encode ws (length (flat_map encode ws)) 0 0 (length_joined ws) (kept_inorder p 0 rs c)

pub length_row : (rs : List Plain) → length (flat_map encode rs) ≡ bytes_of rs
length_row [] = refl
length_row (r ∷ rs) = omega (arith, length-append (encode r) (flat_map encode rs), length_encode r, length_row rs, sum_by-cons size_of r rs)

pub length_tape : (b : List ℕ) (rs : List Plain) → Sound b rs → length b ≡ 1 + bytes_of rs
length_tape b rs s = let e = ap length s.bytes in omega (arith, length_row rs)

kept_size : (t : Bool) (r : Plain) (rs : List Plain) → bytes_of (cond t (r ∷ rs) rs) ≡ cond t (size_of r) 0 + bytes_of rs
kept_size true r rs = sum_by-cons size_of r rs
kept_size false r rs = omega arith

-- the window's bytes lie between its edges
between_one : (low high : ℕ) (r : Plain) (x y z : List Plain) → low ≤ high → bytes_of y ≡ bytes_of x + bytes_of z → bytes_of (cond (earlier high r) (r ∷ y) y) ≡ bytes_of (cond (earlier low r) (r ∷ x) x) + bytes_of (cond (within low high r) (r ∷ z) z)
between_one low high r x y z le h =
    let a = kept_size (earlier high r) r y in
    let b = kept_size (earlier low r) r x in
    let d = kept_size (within low high r) r z in
    let e : cond (earlier high r) (size_of r) 0 ≡ cond (earlier low r) (size_of r) 0 + cond (within low high r) (size_of r) 0 = grind (arith, nat_tests) in
    omega (arith, a, b, d, e, h)

pub between : (low high : ℕ) (rs : List Plain) → low ≤ high → bytes_of (filter (earlier high) rs) ≡ bytes_of (filter (earlier low) rs) + bytes_of (filter (within low high) rs)
between low high [] le = refl
between low high (r ∷ rs) le = between_one low high r (filter (earlier low) rs) (filter (earlier high) rs) (filter (within low high) rs) le (between low high rs le)

pub edge_inside : (b : List ℕ) (rs : List Plain) (t : ℕ) → Sound b rs → edge t rs ≤ length b
edge_inside b rs t s = omega (arith, length_tape b rs s, sum_by-filter_both (earlier t) (λ r. not (earlier t r)) (λ _. refl) size_of rs)
