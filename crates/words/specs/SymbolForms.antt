-- A symbol's text reads form by form.
use Rattle.std.specs.Prelude.{◌≡◌, ℕ, zero, suc, ◌<◌, ◌≤◌, Bool, true, false, cond, List, [], ◌∷◌, length, Some, None, Option, IfSome, ◌==◌, refl}
use Rattle.std.specs.Option.{MatchOption}
use Rattle.std.proofs.Common.{ap, sym, ◌∙◌, arith}
use Rattle.std.proofs.lemmas.Bool.{ne_eqb}
use Rattle.words.specs.Forms.{ReadsByForms}
use Rattle.words.specs.HexText.{hex_byte, hex_value, onto}
use Rattle.words.specs.SymbolText.{is_plain, before_rest, escape, first_form, and_then, forms, all_forms}

-- a form takes some of the text
after_pair : (t : Bool) (b : Option ℕ) (rest : List ℕ) → IfSome (cond t (before_rest b rest) None) (λ p. length p.1 ≤ suc (suc (suc (length rest))))
after_pair true None rest = tt
after_pair true (Some b) rest = omega arith
after_pair false b rest = tt

after_escape : (text : List ℕ) → IfSome (escape text) (λ p. length p.1 ≤ length text)
after_escape [] = tt
after_escape (x ∷ []) = tt
after_escape (x ∷ h ∷ []) = tt
after_escape (x ∷ h ∷ l ∷ rest) = after_pair (x == 120) (hex_byte (hex_value h) (hex_value l)) rest

after_first : (t u : Bool) (c : ℕ) (cs : List ℕ) → IfSome (cond t (escape cs) (cond u (Some (c, cs)) None)) (λ p. length p.1 ≤ length cs)
after_first true u c cs = after_escape cs
after_first false true c cs = omega arith
after_first false false c cs = tt

-- as many turns as the text has bytes are enough
forms_none : (n : ℕ) → forms n [] ≡ Some []
forms_none zero = refl
forms_none (suc n) = refl

same_rest : (o : Option (ℕ × List ℕ)) (k m n : ℕ) → ((rest : List ℕ) → length rest ≤ k → forms m rest ≡ forms n rest) → IfSome o (λ p. length p.1 ≤ k) → and_then o (forms m) ≡ and_then o (forms n)
same_rest None k m n same le = refl
same_rest (Some p) k m n same le = ap (onto (Some p.0)) (same p.1 le)

enough : (m n : ℕ) (text : List ℕ) → length text ≤ m → length text ≤ n → forms m text ≡ forms n text
enough m n [] lm ln = forms_none m ∙ sym (forms_none n)
enough zero n (c ∷ cs) lm ln = absurd (omega arith)
enough (suc m) zero (c ∷ cs) lm ln = absurd (omega arith)
enough (suc m) (suc n) (c ∷ cs) lm ln =
    same_rest (first_form (c ∷ cs)) (length cs) m n (λ rest less. enough m n rest (omega arith) (omega arith)) (after_first (c == 92) (is_plain c) c cs)

first : (o : Option (ℕ × List ℕ)) (k : ℕ) → IfSome o (λ p. length p.1 ≤ k) → MatchOption o (and_then o (forms k) ≡ cond (suc k == 0) (Some []) None) (λ p. (length p.1 < suc k) × (and_then o (forms k) ≡ onto (Some p.0) (all_forms p.1)))
first None k le = rw (ne_eqb (suc k) 0 (λ e. omega arith))
first (Some p) k le = (omega arith, ap (onto (Some p.0)) (enough k (length p.1) p.1 le (omega arith)))

pub symbols_by_forms : ReadsByForms first_form all_forms
symbols_by_forms [] = refl
symbols_by_forms (c ∷ cs) = first (first_form (c ∷ cs)) (length cs) (after_first (c == 92) (is_plain c) c cs)
