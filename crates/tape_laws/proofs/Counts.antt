-- Rows in which each record stands equally often have the same sums.
use Rattle.std.proofs.Common.{◌≡◌, ℕ, ◌+◌, ◌*◌, ◌<◌, Bool, true, false, cond, eqb, List, [], ◌∷◌, ◌++◌, sum_by, filter, sym, refl, ap, ◌∙◌, arith, eq-eqb, eqb-true}
use Rattle.std.proofs.lemmas.Slice.Eq.{bytes_eq-Decides}
use Rattle.std.proofs.lemmas.Bool.{and_parts, and_from}
use Rattle.std.proofs.lemmas.List.Sums.{sum_by-cons, sum_by-append}
use Rattle.tape.specs.Format.{Plain, trade, quote}
use Rattle.tape_laws.specs.Alike.{same_fields, same_record, often, Alike, AnyOrder}

fields_refl : (t a b : ℕ) (s : List ℕ) → same_fields t a b s t a b s ≡ true
fields_refl t a b s =
    and_from (eqb t t) _ (eq-eqb t t refl) (and_from (eqb a a) _ (eq-eqb a a refl) (and_from (eqb b b) _ (eq-eqb b b refl) ((bytes_eq-Decides s s).1 refl)))

same_refl : (r : Plain) → same_record r r ≡ true
same_refl (trade t a b s) = fields_refl t a b s
same_refl (quote t a b s) = fields_refl t a b s

fields_eq : (t a b : ℕ) (s : List ℕ) (u c d : ℕ) (z : List ℕ) → same_fields t a b s u c d z ≡ true → (t ≡ u) × (a ≡ c) × (b ≡ d) × (s ≡ z)
fields_eq t a b s u c d z h =
    let p = and_parts (eqb t u) _ h in
    let q = and_parts (eqb a c) _ p.1 in
    let m = and_parts (eqb b d) _ q.1 in
    (eqb-true t u p.0, eqb-true a c q.0, eqb-true b d m.0, (bytes_eq-Decides s z).0 m.1)

same_eq : (r q : Plain) → same_record r q ≡ true → r ≡ q
same_eq (trade t a b s) (trade u c d z) h = let e = fields_eq t a b s u c d z h in cc
same_eq (trade t a b s) (quote u c d z) h = absurd (let z : ◌≡◌ {A = ℕ} 0 1 = cc in omega arith)
same_eq (quote t a b s) (trade u c d z) h = absurd (let z : ◌≡◌ {A = ℕ} 0 1 = cc in omega arith)
same_eq (quote t a b s) (quote u c d z) h = let e = fields_eq t a b s u c d z h in cc

abbrev once : Plain → Plain → ℕ
once r y = cond (same_record r y) 1 0

abbrev Parts : Plain → List Plain → Type 0
Parts r ys = (a : List Plain) × (b : List Plain) × (ys ≡ a ++ (r ∷ b))

split_at : (r y : Plain) (ys : List Plain) (t : Bool) → same_record r y ≡ t → 0 < cond t 1 0 + often r ys → (0 < often r ys → Parts r ys) → Parts r (y ∷ ys)
split_at r y ys true e h ih = ([], ys, ap (λ x. x ∷ ys) (sym (same_eq r y e)))
split_at r y ys false e h ih = let m = ih (omega arith) in (y ∷ m.0, m.1, ap (λ l. y ∷ l) m.2)

split : (r : Plain) (ys : List Plain) → 0 < often r ys → Parts r ys
split r [] h = absurd (omega arith)
split r (y ∷ ys) h = split_at r y ys (same_record r y) refl (omega (arith, sum_by-cons (once r) y ys)) (split r ys)

none : (ys : List Plain) → Alike [] ys → ys ≡ []
none [] h = refl
none (y ∷ ys) h = absurd (let e = ap {B = ℕ} (λ t. cond t 1 0) (same_refl y) in omega (arith, h y, sum_by-cons (once y) y ys, e))

pub sum_alike : (f : Plain → ℕ) (xs ys : List Plain) → Alike xs ys → sum_by f xs ≡ sum_by f ys
sum_alike f [] ys h = ap (sum_by f) (sym (none ys h))
sum_alike f (x ∷ xs) ys h =
    let e = ap {B = ℕ} (λ t. cond t 1 0) (same_refl x) in
    let m = split x ys (omega (arith, h x, sum_by-cons (once x) x xs, e)) in
    let a = m.0 in
    let b = m.1 in
    let rest : Alike xs (a ++ b) =
    λ r. omega (arith, h r, sum_by-cons (once r) x xs, ap (often r) m.2, sum_by-append (once r) a (x ∷ b), sum_by-cons (once r) x b, sum_by-append (once r) a b) in
    omega (arith, sum_alike f xs (a ++ b) rest, sum_by-cons f x xs, ap (sum_by f) m.2, sum_by-append f a (x ∷ b), sum_by-cons f x b, sum_by-append f a b)

pub any_order : AnyOrder
any_order k rs qs h = (sum_alike (λ r. k.weight r * k.value r) rs qs h, sum_alike k.weight rs qs h)

-- a record that passes a test stands as often behind it; one that does not stands there never
kept_once : (p : Plain → Bool) (r x : Plain) (ks : List Plain) (a b : Bool) → p r ≡ true → p x ≡ a → same_record r x ≡ b → sum_by (once r) (cond a (x ∷ ks) ks) ≡ cond b 1 0 + sum_by (once r) ks
kept_once p r x ks true b h e s = sum_by-cons (once r) x ks ∙ ap (λ t. cond t 1 0 + sum_by (once r) ks) s
kept_once p r x ks false true h e s = absurd (let q = same_eq r x s in let z : ◌≡◌ {A = Bool} true false = sym h ∙ ap p q ∙ e in let w : ◌≡◌ {A = ℕ} 0 1 = cc in omega arith)
kept_once p r x ks false false h e s = omega arith

often_kept : (p : Plain → Bool) (r : Plain) (rs : List Plain) → p r ≡ true → often r (filter p rs) ≡ often r rs
often_kept p r [] h = refl
often_kept p r (x ∷ rs) h =
    omega (arith, kept_once p r x (filter p rs) (p x) (same_record r x) h refl refl, often_kept p r rs h, sum_by-cons (once r) x rs)

kept_never : (p : Plain → Bool) (r x : Plain) (ks : List Plain) (a b : Bool) → p r ≡ false → p x ≡ a → same_record r x ≡ b → sum_by (once r) ks ≡ 0 → sum_by (once r) (cond a (x ∷ ks) ks) ≡ 0
kept_never p r x ks true true h e s n = absurd (let q = same_eq r x s in let z : ◌≡◌ {A = Bool} true false = sym e ∙ ap p (sym q) ∙ h in let w : ◌≡◌ {A = ℕ} 0 1 = cc in omega arith)
kept_never p r x ks true false h e s n = omega (arith, sum_by-cons (once r) x ks, ap {B = ℕ} (λ t. cond t 1 0) s)
kept_never p r x ks false b h e s n = n

never_kept : (p : Plain → Bool) (r : Plain) (rs : List Plain) → p r ≡ false → often r (filter p rs) ≡ 0
never_kept p r [] h = refl
never_kept p r (x ∷ rs) h = kept_never p r x (filter p rs) (p x) (same_record r x) h refl refl (never_kept p r rs h)

alike_at : (p : Plain → Bool) (rs qs : List Plain) (r : Plain) (t : Bool) → p r ≡ t → (p r ≡ true → often r rs ≡ often r qs) → often r (filter p rs) ≡ often r (filter p qs)
alike_at p rs qs r true e h = often_kept p r rs e ∙ h e ∙ sym (often_kept p r qs e)
alike_at p rs qs r false e h = never_kept p r rs e ∙ sym (never_kept p r qs e)

-- where each record that passes stands equally often in both rows, those that pass are alike
pub alike_kept : (p : Plain → Bool) (rs qs : List Plain) → ((r : Plain) → p r ≡ true → often r rs ≡ often r qs) → Alike (filter p rs) (filter p qs)
alike_kept p rs qs h = λ r. alike_at p rs qs r (p r) refl (h r)
