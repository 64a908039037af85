-- What holds of the record at the front of some bytes: it lies within them, and its fields are good.
use Rattle.std.proofs.Common.{◌≡◌, ℕ, ◌+◌, ◌≤◌, Bool, true, false, cond, eqb, leb, List, length, get_or, take, drop, IfOk, Ok, Err, Result, refl, ap, arith, length-drop, length-take, eqb-true, leb-true}
use Rattle.std.proofs.lemmas.Bool.Decides.{nat_tests}
use Rattle.tape.specs.Format.{Plain, trade, quote, symbol_of, size_of, within, good_symbol, good_fields}
use Rattle.tape.specs.Reading.{front, decode, judge, be2, be4}

pub made_if : {X Y : Type 0} (P : X → Type 0) (c : Bool) (x y : Result X Y) → (c ≡ true → IfOk x P) → (c ≡ false → IfOk y P) → IfOk (cond c x y) P
made_if P true x y f g = f refl
made_if P false x y f g = g refl

pub made_more : {X Y : Type 0} (P Q : X → Type 0) (r : Result X Y) → ((x : X) → P x → Q x) → IfOk r P → IfOk r Q
made_more P Q (Ok x) f h = f x h
made_more P Q (Err e) f h = tt

pub within_low : (low high n : ℕ) → within low high n ≡ true → low ≤ n
within_low low high n h = grind (arith, nat_tests)

-- what is shown of both kinds is shown of whatever a body stands for
pub judged : (P : Plain → Type 0) (k t a b : ℕ) (s : List ℕ) → (k ≡ 1 → good_fields (trade t a b s) ≡ true → P (trade t a b s)) → (k ≡ 2 → good_fields (quote t a b s) ≡ true → P (quote t a b s)) → IfOk (judge k t a b s) P
judged P k t a b s f g =
    made_if P (eqb k 1) _ _ (λ is. made_if P (good_fields (trade t a b s)) _ _ (f (eqb-true k 1 is)) (λ _. tt))
    (λ _. made_if P (eqb k 2) _ _ (λ is. made_if P (good_fields (quote t a b s)) _ _ (g (eqb-true k 2 is)) (λ _. tt)) (λ _. tt))

-- what is shown of a decoded body holds of the record at the front
pub fronted : (P : Plain → Type 0) (b : List ℕ) → (14 ≤ be2 b 0 → be2 b 0 ≤ 25 → 2 + be2 b 0 ≤ length b → IfOk (decode (take (be2 b 0) (drop 2 b))) P) → IfOk (front b) P
fronted P b f =
    made_if P (leb 2 (length b)) _ _
    (λ _. made_if P (within 14 25 (be2 b 0)) _ _
    (λ long. made_if P (leb (2 + be2 b 0) (length b)) _ _
    (λ fits. f (within_low 14 25 (be2 b 0) long) (grind (arith, nat_tests)) (leb-true (2 + be2 b 0) (length b) fits))
    (λ _. tt))
    (λ _. tt))
    (λ _. tt)

decode_symbol : (x : List ℕ) → IfOk (decode x) (λ r. (symbol_of r ≡ drop 13 x) × (good_fields r ≡ true))
unfolding decode
decode_symbol x = judged _ (get_or x 0 0) (be4 x 1) (be4 x 5) (be4 x 9) (drop 13 x) (λ _ h. (refl, h)) (λ _ h. (refl, h))

abbrev pub Lies : List ℕ → Plain → Type 0
Lies b r = (size_of r ≤ length b) × (good_symbol r ≡ true) × (good_fields r ≡ true)

pub front_lies : (b : List ℕ) → IfOk (front b) (Lies b)
front_lies b =
    fronted (Lies b) b
    (λ low high room. made_more (λ r. (symbol_of r ≡ drop 13 (take (be2 b 0) (drop 2 b))) × (good_fields r ≡ true)) (Lies b) _
    (λ r e.
    let n = ap length e.0 in
    let d = length-drop 13 (take (be2 b 0) (drop 2 b)) in
    let t = length-take (be2 b 0) (drop 2 b) in
    let two = length-drop 2 b in
    let size : length (symbol_of r) + 13 ≡ be2 b 0 = omega arith in
    (omega arith, grind (arith, nat_tests), e.1))
    (decode_symbol (take (be2 b 0) (drop 2 b))))
