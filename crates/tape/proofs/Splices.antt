-- Two writes, one after the other.
use Rattle.std.proofs.Common.{◌≡◌, ℕ, ◌+◌, ◌≤◌, List, ◌++◌, length, take, drop, refl, ap, ◌∙◌, append_assoc, arith, length-append}
use Rattle.std.proofs.lemmas.List.{drop-drop, take_at, drop_at, length-take-le}
use Rattle.tape.specs.Format.{Plain, trade, quote, symbol_of, size_of, head, encode}
use Rattle.tape.specs.Writing.{splice}

pub splice_two : (at : ℕ) (h s xs : List ℕ) → at + length h ≤ length xs → splice (at + length h) s (splice at h xs) ≡ splice at (h ++ s) xs
splice_two at h s xs room =
    let n = at + length h in
    let m = length s in
    let p = take at xs ++ h in
    let q = drop n xs in
    let long : length p ≡ n = length-append (take at xs) h ∙ ap (λ k. k + length h) (length-take-le at xs (omega arith)) in
    let front = append_assoc (take at xs) h q in
    let t = take_at p q n long in
    let d1 = drop_at p q n long in
    let d2 = drop-drop m n (p ++ q) in
    let d3 = drop-drop m n xs in
    let z = drop (n + m) xs in
    let a3 = append_assoc (take at xs) h (s ++ z) in
    let a4 = append_assoc h s z in
    let e : at + length (h ++ s) ≡ n + m = omega (arith, length-append h s) in
    cc

pub length_head : (r : Plain) → length (head r) ≡ 15
length_head (trade t a b s) = refl
length_head (quote t a b s) = refl

pub length_encode : (r : Plain) → length (encode r) ≡ size_of r
unfolding encode
length_encode r = length-append (head r) (symbol_of r) ∙ ap (λ k. k + length (symbol_of r)) (length_head r)
