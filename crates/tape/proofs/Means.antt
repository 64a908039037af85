-- What a verdict on a tape means: the records are written again as the bytes they were read from.
use Rattle.std.proofs.Common.{◌≡◌, ℕ, zero, suc, ◌+◌, ◌*◌, ◌<◌, ◌≤◌, Bool, true, false, cond, eqb, leb, ◌⊎◌, List, [], ◌∷◌, ◌++◌, length, get_or, take, drop, IfOk, IfErr, Some, None, Ok, Err, Result, sym, refl, ap, ◌∙◌, subst, inl, inr, append_assoc, arith, length-append, length-drop, take-append-drop, eqb-true, leb-true}
use borrow.Author.Tests.{eqb-false}
use Rattle.std.specs.List.{flat_map}
use Rattle.std.proofs.lemmas.List.{drop_more, nil_from_length, length-take-le}
use Rattle.std.proofs.lemmas.Bool.{cond_both, cond-false}
use Rattle.std.proofs.lemmas.Bool.Decides.{nat_tests}
use Rattle.tape.specs.declared.fault.Flaw.{Flaw}
use Rattle.tape.specs.declared.fault.Flaw.TheVariants.{Short, Kind, Length, Field, Backward}
use Rattle.tape.specs.declared.fault.TapeFault.{TapeFault}
use Rattle.tape.specs.declared.fault.TapeFault.TheVariants.{TooLong, Version, Broken}
use Rattle.tape.specs.Codes.{Refusal, refused, refused_at, flaw_number, refusing, tape_refusal}
use Rattle.tape.specs.Format.{Plain, trade, quote, time_of, size_of, within, good_fields, bytes2, bytes4, header, encode}
use Rattle.tape.specs.Reading.{be2, be4, fielded, decode, front, timely, Step, over, one, bad, stepped, step, Outcome, sound, faulty, put, carry, walk, parse, count}
use Rattle.tape.specs.Sound.{InOrder, Sound, latest, lateness, flaw_of, Breaks, Verdict}
use Rattle.tape.proofs.Digits.{digit_0, digit_1, digit_2, digit_3, low_0, low_1}
use Rattle.tape.proofs.Fronts.{made_more, judged, fronted, Lies, front_lies}
use Rattle.tape.proofs.Splices.{length_encode}

abbrev pub Bytes : List ℕ → Type 0
Bytes [] = Unit {0}
Bytes (b ∷ bs) = (b < 256) × Bytes bs

pub bytes_all : (x : List ℕ) → ((i : ℕ) → get_or x i 0 < 256) → Bytes x
bytes_all [] f = tt
bytes_all (b ∷ x) f = (f 0, bytes_all x (λ i. f (suc i)))

byte_at : (x : List ℕ) (i : ℕ) → Bytes x → get_or x i 0 < 256
byte_at [] i h = omega arith
byte_at (b ∷ x) zero h = h.0
byte_at (b ∷ x) (suc i) h = byte_at x i h.1

bytes_take : (n : ℕ) (x : List ℕ) → Bytes x → Bytes (take n x)
bytes_take zero x h = tt
bytes_take (suc n) [] h = tt
bytes_take (suc n) (b ∷ x) h = (h.0, bytes_take n x h.1)

bytes_drop : (n : ℕ) (x : List ℕ) → Bytes x → Bytes (drop n x)
bytes_drop zero x h = h
bytes_drop (suc n) [] h = tt
bytes_drop (suc n) (b ∷ x) h = bytes_drop n x h.1

-- numbers are written again as the bytes that they were read from
two : (a b : ℕ) → a < 256 → b < 256 → bytes2 (a * 256 + b) ≡ a ∷ b ∷ []
two a b ha hb =
    let e0 = low_0 a b ha hb in
    let e1 = low_1 a b ha hb in
    cc

four : (a b c d : ℕ) → a < 256 → b < 256 → c < 256 → d < 256 → bytes4 (a * 16777216 + b * 65536 + c * 256 + d) ≡ a ∷ b ∷ c ∷ d ∷ []
four a b c d ha hb hc hd =
    let e0 = digit_0 a b c d ha hb hc hd in
    let e1 = digit_1 a b c d ha hb hc hd in
    let e2 = digit_2 a b c d ha hb hc hd in
    let e3 = digit_3 a b c d ha hb hc hd in
    cc

four_at : (x : List ℕ) (i : ℕ) → Bytes x → bytes4 (be4 x i) ≡ get_or x i 0 ∷ get_or x (i + 1) 0 ∷ get_or x (i + 2) 0 ∷ get_or x (i + 3) 0 ∷ []
four_at x i h =
    four (get_or x i 0) (get_or x (i + 1) 0) (get_or x (i + 2) 0) (get_or x (i + 3) 0) (byte_at x i h) (byte_at x (i + 1) h) (byte_at x (i + 2) h) (byte_at x (i + 3) h)

-- the header and the symbol of a body are the body, behind its length
thirteen : (x : List ℕ) → 13 ≤ length x → x ≡ get_or x 0 0 ∷ get_or x 1 0 ∷ get_or x 2 0 ∷ get_or x 3 0 ∷ get_or x 4 0 ∷ get_or x 5 0 ∷ get_or x 6 0 ∷ get_or x 7 0 ∷ get_or x 8 0 ∷ get_or x 9 0 ∷ get_or x 10 0 ∷ get_or x 11 0 ∷ get_or x 12 0 ∷ drop 13 x
thirteen x h =
    let d0 = drop_more x 0 0 (omega arith) in
    let d1 = drop_more x 1 0 (omega arith) in
    let d2 = drop_more x 2 0 (omega arith) in
    let d3 = drop_more x 3 0 (omega arith) in
    let d4 = drop_more x 4 0 (omega arith) in
    let d5 = drop_more x 5 0 (omega arith) in
    let d6 = drop_more x 6 0 (omega arith) in
    let d7 = drop_more x 7 0 (omega arith) in
    let d8 = drop_more x 8 0 (omega arith) in
    let d9 = drop_more x 9 0 (omega arith) in
    let d10 = drop_more x 10 0 (omega arith) in
    let d11 = drop_more x 11 0 (omega arith) in
    let d12 = drop_more x 12 0 (omega arith) in
    cc

header_back : (x : List ℕ) → Bytes x → 13 ≤ length x → header (length (drop 13 x)) (get_or x 0 0) (be4 x 1) (be4 x 5) (be4 x 9) ++ drop 13 x ≡ bytes2 (length x) ++ x
header_back x h long =
    let n : 13 + length (drop 13 x) ≡ length x = omega (arith, length-drop 13 x) in
    let t = four_at x 1 h in
    let a = four_at x 5 h in
    let b = four_at x 9 h in
    let e = ap bytes2 n in
    ap (λ m. (m ++ (get_or x 0 0 ∷ bytes4 (be4 x 1)) ++ bytes4 (be4 x 5) ++ bytes4 (be4 x 9)) ++ drop 13 x) e
    ∙ ap (λ m. (bytes2 (length x) ++ (get_or x 0 0 ∷ m) ++ bytes4 (be4 x 5) ++ bytes4 (be4 x 9)) ++ drop 13 x) t
    ∙ ap (λ m. (bytes2 (length x) ++ (get_or x 0 0 ∷ get_or x 1 0 ∷ get_or x 2 0 ∷ get_or x 3 0 ∷ get_or x 4 0 ∷ []) ++ m ++ bytes4 (be4 x 9)) ++ drop 13 x) a
    ∙ ap (λ m. (bytes2 (length x) ++ (get_or x 0 0 ∷ get_or x 1 0 ∷ get_or x 2 0 ∷ get_or x 3 0 ∷ get_or x 4 0 ∷ []) ++ (get_or x 5 0 ∷ get_or x 6 0 ∷ get_or x 7 0 ∷ get_or x 8 0 ∷ []) ++ m) ++ drop 13 x) b
    ∙ ap (λ m. bytes2 (length x) ++ m) (sym (thirteen x long))

decode_back : (x : List ℕ) → Bytes x → 14 ≤ length x → IfOk (decode x) (λ r. encode r ≡ bytes2 (length x) ++ x)
unfolding decode encode
decode_back x h low =
    let back = header_back x h (omega arith) in
    let s = drop 13 x in
    judged (λ r. encode r ≡ bytes2 (length x) ++ x) (get_or x 0 0) (be4 x 1) (be4 x 5) (be4 x 9) s
    (λ is _. ap (λ k. header (length s) k (be4 x 1) (be4 x 5) (be4 x 9) ++ s) (sym is) ∙ back)
    (λ is _. ap (λ k. header (length s) k (be4 x 1) (be4 x 5) (be4 x 9) ++ s) (sym is) ∙ back)

abbrev Again : List ℕ → Plain → Type 0
Again b r = encode r ≡ take (size_of r) b

front_back : (b : List ℕ) → Bytes b → IfOk (front b) (Again b)
front_back [] h = tt
front_back (b0 ∷ []) h = tt
front_back (b0 ∷ b1 ∷ c) h =
    let n = b0 * 256 + b1 in
    fronted (Again (b0 ∷ b1 ∷ c)) (b0 ∷ b1 ∷ c)
    (λ low high room.
    let long : length (take n c) ≡ n = length-take-le n c (omega arith) in
    made_more (λ r. encode r ≡ bytes2 (length (take n c)) ++ take n c) (Again (b0 ∷ b1 ∷ c)) _
    (λ r e.
    let same : encode r ≡ b0 ∷ b1 ∷ take n c = e ∙ ap (λ m. m ++ take n c) (ap bytes2 long ∙ two b0 b1 h.0 h.1.0) in
    let size : size_of r ≡ suc (suc n) = omega (arith, length_encode r, ap length same, long) in
    same ∙ ap (λ m. take m (b0 ∷ b1 ∷ c)) (sym size))
    (decode_back (take n c) (bytes_take n c h.1.1) (omega arith)))

-- the code of a flaw in one record is none of the whole tape's
failing_if : {X : Type 0} (c : Bool) (x y : Result X ℕ) → IfErr x (λ k. 2 ≤ k) → IfErr y (λ k. 2 ≤ k) → IfErr (cond c x y) (λ k. 2 ≤ k)
failing_if true x y f g = f
failing_if false x y f g = g

fielded_code : (r : Plain) → IfErr (fielded r) (λ k. 2 ≤ k)
fielded_code r = failing_if (good_fields r) (Ok r) (Err 5) tt (omega arith)

decode_code : (x : List ℕ) → IfErr (decode x) (λ k. 2 ≤ k)
unfolding decode
decode_code x =
    failing_if (eqb (get_or x 0 0) 1) _ _ (fielded_code (trade (be4 x 1) (be4 x 5) (be4 x 9) (drop 13 x)))
    (failing_if (eqb (get_or x 0 0) 2) _ _ (fielded_code (quote (be4 x 1) (be4 x 5) (be4 x 9) (drop 13 x))) (omega arith))

front_code : (b : List ℕ) → IfErr (front b) (λ k. 2 ≤ k)
front_code b =
    failing_if (leb 2 (length b)) _ _
    (failing_if (within 14 25 (be2 b 0)) _ _
    (failing_if (leb (2 + be2 b 0) (length b)) _ _ (decode_code (take (be2 b 0) (drop 2 b))) (omega arith)) (omega arith))
    (omega arith)

-- what a step says of the bytes that are left
pub record Flawed (b : List ℕ) (p last k : ℕ) (f : Refusal) : Type 0 where
  pub high : 2 ≤ k
  pub is : f ≡ refused_at k p
  pub some : 1 ≤ length b
  pub flaw : flaw_of last b ≡ Some k

abbrev Says : List ℕ → ℕ → ℕ → Step → Type 0
Says b p last over = length b ≡ 0
Says b p last (one q r) = Lies b r × Again b r × (last ≤ time_of r)
Says b p last (bad f) = (k : ℕ) × Flawed b p last k f

record_says : (b : List ℕ) (p last : ℕ) (x : Result Plain ℕ) → front b ≡ x → 1 ≤ length b → IfOk x (Lies b) → IfOk x (Again b) → IfErr x (λ k. 2 ≤ k) → Says b p last (stepped p (timely p last x))
record_says b p last (Ok r) is some lies again code =
    cond_both (leb last (time_of r)) (Ok r) (Err (refused_at 6 p)) (λ x. Says b p last (stepped p x)) (λ t. (lies, again, leb-true last (time_of r) t))
    (λ late. (6, record { high = omega arith; is = refl; some = some; flaw = ap (lateness last) is ∙ cond-false (leb last (time_of r)) None (Some 6) late }))
record_says b p last (Err k) is some lies again code = (k, record { high = code; is = refl; some = some; flaw = ap (lateness last) is })

step_says : (b : List ℕ) (p last : ℕ) → Bytes b → Says b p last (step b p last)
step_says b p last h =
    cond_both (eqb (length b) 0) over (stepped p (timely p last (front b))) (Says b p last) (λ e. eqb-true (length b) 0 e)
    (λ some. record_says b p last (front b) refl (grind (arith, nat_tests)) (front_lies b) (front_back b h) (front_code b))

-- what the records from the place p on say of their bytes
pub record Stops (b : List ℕ) (p last : ℕ) (f : Refusal) : Type 0 where
  pub before : List Plain
  pub rest : List ℕ
  pub code : ℕ
  pub bytes : b ≡ flat_map encode before ++ rest
  pub inorder : InOrder last before
  pub flawed : Flawed rest (p + length (flat_map encode before)) (latest last before) code f

abbrev Reads : List ℕ → ℕ → ℕ → Outcome → Type 0
Reads b p last (sound rs) = (b ≡ flat_map encode rs) × InOrder last rs
Reads b p last (faulty f) = Stops b p last f

module _ (b : List ℕ) (p last : ℕ) (r : Plain) (s : Lies b r × Again b r × (last ≤ time_of r)) where
  split : b ≡ encode r ++ drop (size_of r) b
  split = sym (take-append-drop (size_of r) b) ∙ ap (λ l. l ++ drop (size_of r) b) (sym s.1)

  more : (rs : List Plain) → InOrder (time_of r) rs → InOrder last (r ∷ rs)
  more rs h = (s.0.1, s.0.2, s.2, h)

  put_reads : (o : Outcome) → Reads (drop (size_of r) b) (p + size_of r) (time_of r) o → Reads b p last (put r o)
  put_reads (sound rs) h = (split ∙ ap (λ l. encode r ++ l) h.0, more rs h.1)
  put_reads (faulty f) h =
      let js = flat_map encode h.before in
      let long : p + size_of r + length js ≡ p + length (encode r ++ js) = omega (arith, length-append (encode r) js, length_encode r) in
      record {
        before = r ∷ h.before;
        rest = h.rest;
        code = h.code;
        bytes = split ∙ ap (λ l. encode r ++ l) h.bytes ∙ sym (append_assoc (encode r) js h.rest);
        inorder = more h.before h.inorder;
        flawed = subst (λ q. Flawed h.rest q (latest (time_of r) h.before) h.code f) long h.flawed;
      }

abbrev Walks : ℕ → Type 0
Walks n = (b : List ℕ) (p last : ℕ) → Bytes b → length b ≤ n → Reads b p last (walk n b p last)

on_step : (n : ℕ) → Walks n → (b : List ℕ) (p last : ℕ) (s : Step) → Bytes b → length b ≤ suc n → Says b p last s → Reads b p last (carry s (λ r. put r (walk n (drop (size_of r) b) (p + size_of r) (time_of r))))
on_step n ih b p last over h le s = (nil_from_length b s, tt)
on_step n ih b p last (one q r) h le s =
    put_reads b p last r s (walk n (drop (size_of r) b) (p + size_of r) (time_of r))
    (ih (drop (size_of r) b) (p + size_of r) (time_of r) (bytes_drop (size_of r) b h) (omega (arith, length-drop (size_of r) b, s.0.0)))
on_step n ih b p last (bad f) h le s =
    let none : p ≡ p + length (flat_map encode []) = omega arith in
    record { before = []; rest = b; code = s.0; bytes = refl; inorder = tt; flawed = subst (λ q. Flawed b q last s.0 f) none s.1 }

walk_reads : (n : ℕ) → Walks n
walk_reads zero b p last h le = (nil_from_length b (omega arith), tt)
walk_reads (suc n) b p last h le = on_step n (walk_reads n) b p last (step b p last) h le (step_says b p last h)

-- what the whole tape is
abbrev Judged : List ℕ → Outcome → Type 0
Judged b (sound rs) = Sound b rs
Judged b (faulty f) =
    ((f ≡ refused 7) × (1048576 < length b)) ⊎ (((f ≡ refused_at 1 0) × (length b ≤ 1048576) × (get_or b 0 0 ≡ 1 → ⊥)) ⊎ ((p : ℕ) × (k : ℕ) × (f ≡ refused_at k p) × (2 ≤ k) × Breaks b p k))

walked : (x : ℕ) (c : List ℕ) (o : Outcome) → x ≡ 1 → length (x ∷ c) ≤ 1048576 → Reads c 1 0 o → Judged (x ∷ c) o
walked x c (sound rs) first short h = record { bytes = let e = h.0 in cc; inorder = h.1; short = short }
walked x c (faulty f) first short h =
    inr (inr (
      1 + length (flat_map encode h.before),
      h.code,
      h.flawed.is,
      h.flawed.high,
      record {
        short = short;
        before = h.before;
        rest = h.rest;
        bytes = let e = h.bytes in cc;
        inorder = h.inorder;
        place = omega arith;
        some = h.flawed.some;
        flaw = h.flawed.flaw;
      },
    ))

parse_judged : (b : List ℕ) → Bytes b → Judged b (parse b)
parse_judged [] h = inr (inl (refl, omega arith, λ e. omega arith))
parse_judged (x ∷ c) h =
    cond_both (leb (length (x ∷ c)) 1048576) _ (faulty (refused 7)) (Judged (x ∷ c))
    (λ t.
    let short = leb-true (length (x ∷ c)) 1048576 t in
    cond_both (eqb x 1) (walk (length (x ∷ c)) c 1 0) (faulty (refused_at 1 0)) (Judged (x ∷ c))
    (λ is. walked x c (walk (length (x ∷ c)) c 1 0) (eqb-true x 1 is) short (walk_reads (length (x ∷ c)) c 1 0 h.1 (omega arith)))
    (λ other. inr (inl (refl, short, eqb-false x 1 other))))
    (λ long. inl (refl, grind (arith, nat_tests)))

absurdly : {X : Type 0} → ◌≡◌ {A = ℕ} 0 1 → X
absurdly z = absurd (omega arith)

not_version : (e : Flaw) (p : ℕ) → refused_at (flaw_number e) p ≡ refused_at 1 0 → ⊥
not_version Short p h = absurdly (let z : ◌≡◌ {A = ℕ} 2 1 = cc in omega arith)
not_version Kind p h = absurdly (let z : ◌≡◌ {A = ℕ} 3 1 = cc in omega arith)
not_version Length p h = absurdly (let z : ◌≡◌ {A = ℕ} 4 1 = cc in omega arith)
not_version Field p h = absurdly (let z : ◌≡◌ {A = ℕ} 5 1 = cc in omega arith)
not_version Backward p h = absurdly (let z : ◌≡◌ {A = ℕ} 6 1 = cc in omega arith)

told_means : (b : List ℕ) (r : Result ℕ TapeFault) (o : Outcome) → refusing tape_refusal r ≡ count 0 o → Judged b o → Verdict b r
told_means b (Ok n) (sound rs) e h = record { records = rs; sound = h; many = let m : n ≡ 0 + length rs = cc in omega arith }
told_means b (Ok n) (faulty f) e h = absurdly cc
told_means b (Err t) (sound rs) e h = absurdly cc
told_means b (Err TooLong) (faulty f) e (inl h) = h.1
told_means b (Err TooLong) (faulty f) e (inr (inl h)) = let g = h.0 in absurdly cc
told_means b (Err TooLong) (faulty f) e (inr (inr h)) = let g = h.2 in absurdly cc
told_means b (Err Version) (faulty f) e (inl h) = let g = h.0 in absurdly cc
told_means b (Err Version) (faulty f) e (inr (inl h)) = (h.1, h.2)
told_means b (Err Version) (faulty f) e (inr (inr h)) = let g = h.2 in let high = h.3 in let k : h.1 ≡ 1 = cc in absurd (omega arith)
told_means b (Err (Broken x)) (faulty f) e (inl h) = let g = h.0 in absurdly cc
told_means b (Err (Broken x)) (faulty f) e (inr (inl h)) = let g = h.0 in absurd (not_version x.flaw x.place cc)
told_means b (Err (Broken x)) (faulty f) e (inr (inr h)) =
    let g = h.2 in
    let k : h.1 ≡ flaw_number x.flaw = cc in
    let p : h.0 ≡ x.place = cc in
    subst (λ q. Breaks b q (flaw_number x.flaw)) p (subst (λ m. Breaks b h.0 m) k h.4)

pub verdict : (b : List ℕ) (r : Result ℕ TapeFault) → Bytes b → refusing tape_refusal r ≡ count 0 (parse b) → Verdict b r
verdict b r h e = told_means b r (parse b) e (parse_judged b h)

pub sound_means : (b : List ℕ) (rs : List Plain) → Bytes b → parse b ≡ sound rs → Sound b rs
sound_means b rs h e = subst (Judged b) e (parse_judged b h)
