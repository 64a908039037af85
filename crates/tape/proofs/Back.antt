-- What is written is read back.
use Rattle.std.proofs.Common.{◌≡◌, ℕ, zero, suc, ◌+◌, ◌<◌, ◌≤◌, true, leb, List, [], ◌∷◌, ◌++◌, length, take, drop, Ok, Err, refl, ap, ◌∙◌, arith, length-append, le-leb}
use Rattle.std.specs.List.{flat_map}
use Rattle.std.proofs.lemmas.Bool.{cond-true}
use Rattle.std.proofs.lemmas.List.{take_at, drop_at}
use Rattle.std.proofs.lemmas.Bool.Decides.{nat_tests}
use Rattle.tape.specs.Codes.{refused_at}
use Rattle.tape.specs.Format.{Plain, trade, quote, time_of, size_of, within, good_symbol, good_fields, bytes4, header, encode, tape_of}
use Rattle.tape.specs.Reading.{be2, be4, judge, decode, front, timely, one, stepped, step, sound, put, carry, walk, parse}
use Rattle.tape.specs.Sound.{InOrder}
use Rattle.tape.proofs.Digits.{two_back, four_back}
use Rattle.tape.proofs.Splices.{length_encode}
use Rattle.tape.proofs.Steps.{step_some}

abbrev body : ℕ → ℕ → ℕ → ℕ → List ℕ → List ℕ
body k t a b s = ((k ∷ bytes4 t) ++ bytes4 a ++ bytes4 b) ++ s

decode_body : (k t a b : ℕ) (s : List ℕ) → t < 4294967296 → a < 4294967296 → b < 4294967296 → decode (body k t a b s) ≡ judge k t a b s
unfolding decode
decode_body k t a b s ht ha hb =
    let et = four_back t ht in
    let ea = four_back a ha in
    let eb = four_back b hb in
    ap (λ n. judge k n (be4 (bytes4 a) 0) (be4 (bytes4 b) 0) s) et ∙ ap (λ n. judge k t n (be4 (bytes4 b) 0) s) ea ∙ ap (λ n. judge k t a n s) eb

length_body : (k t a b : ℕ) (s : List ℕ) → length (body k t a b s) ≡ 13 + length s
length_body k t a b s = omega arith

front_header : (k t a b : ℕ) (s rest : List ℕ) → within 1 12 (length s) ≡ true → t < 4294967296 → a < 4294967296 → b < 4294967296 → front ((header (length s) k t a b ++ s) ++ rest) ≡ judge k t a b s
front_header k t a b s rest fits ht ha hb =
    let low : 1 ≤ length s = grind (arith, nat_tests) in
    let high : length s ≤ 12 = grind (arith, nat_tests) in
    let x = (header (length s) k t a b ++ s) ++ rest in
    let n : be2 x 0 ≡ 13 + length s = two_back (13 + length s) (omega arith) in
    let long : length x ≡ 15 + length s + length rest = omega (arith, length-append s rest) in
    let cut : take (be2 x 0) (drop 2 x) ≡ body k t a b s =
    ap (λ m. take m (body k t a b s ++ rest)) n ∙ take_at (body k t a b s) rest (13 + length s) (length_body k t a b s) in
    cond-true (leb 2 (length x)) _ (Err 2) (le-leb 2 (length x) (omega arith))
    ∙ cond-true (within 14 25 (be2 x 0)) _ (Err 4) (grind (arith, nat_tests))
    ∙ cond-true (leb (2 + be2 x 0) (length x)) _ (Err 2) (le-leb (2 + be2 x 0) (length x) (omega arith))
    ∙ ap decode cut ∙ decode_body k t a b s ht ha hb

record_reads_back : (r : Plain) (rest : List ℕ) → good_symbol r ≡ true → good_fields r ≡ true → front (encode r ++ rest) ≡ Ok r
unfolding encode
record_reads_back (trade t p v s) rest fits good =
    let ht : t < 4294967296 = grind (arith, nat_tests) in
    let hp : p < 4294967296 = grind (arith, nat_tests) in
    let hv : v < 4294967296 = grind (arith, nat_tests) in
    front_header 1 t p v s rest fits ht hp hv ∙ cond-true (good_fields (trade t p v s)) (Ok (trade t p v s)) (Err 5) good
record_reads_back (quote t p v s) rest fits good =
    let ht : t < 4294967296 = grind (arith, nat_tests) in
    let hp : p < 4294967296 = grind (arith, nat_tests) in
    let hv : v < 4294967296 = grind (arith, nat_tests) in
    front_header 2 t p v s rest fits ht hp hv ∙ cond-true (good_fields (quote t p v s)) (Ok (quote t p v s)) (Err 5) good

step_encode : (r : Plain) (rest : List ℕ) (p last : ℕ) → good_symbol r ≡ true → good_fields r ≡ true → last ≤ time_of r → step (encode r ++ rest) p last ≡ one p r
step_encode r rest p last fits good t =
    step_some (encode r ++ rest) p last (omega (arith, length-append (encode r) rest, length_encode r))
    ∙ ap (λ x. stepped p (timely p last x)) (record_reads_back r rest fits good)
    ∙ ap (stepped p) (cond-true (leb last (time_of r)) (Ok r) (Err (refused_at 6 p)) (le-leb last (time_of r) t))

pub walk_encode : (rs : List Plain) (n p last : ℕ) → length rs ≤ n → InOrder last rs → walk n (flat_map encode rs) p last ≡ sound rs
walk_encode [] zero p last h a = refl
walk_encode [] (suc n) p last h a = refl
walk_encode (r ∷ rs) zero p last h a = absurd (omega arith)
walk_encode (r ∷ rs) (suc n) p last h a =
    ap (λ s. carry s (λ q. put q (walk n (drop (size_of q) (flat_map encode (r ∷ rs))) (p + size_of q) (time_of q)))) (step_encode r (flat_map encode rs) p last a.0 a.1 a.2)
    ∙ ap (λ l. put r (walk n l (p + size_of r) (time_of r))) (drop_at (encode r) (flat_map encode rs) (size_of r) (length_encode r))
    ∙ ap (put r) (walk_encode rs n (p + size_of r) (time_of r) (omega arith) a.3)

pub length_joined : (rs : List Plain) → length rs ≤ length (flat_map encode rs)
length_joined [] = omega arith
length_joined (r ∷ rs) = omega (arith, length-append (encode r) (flat_map encode rs), length_encode r, length_joined rs)

pub reads_back : (rs : List Plain) → InOrder 0 rs → length (tape_of rs) ≤ 1048576 → parse (tape_of rs) ≡ sound rs
reads_back rs a few =
    cond-true (leb (length (tape_of rs)) 1048576) _ _ (le-leb _ _ few)
    ∙ walk_encode rs (length (tape_of rs)) 1 0 (omega (arith, length_joined rs)) a
