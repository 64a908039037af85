-- Bytes in hex read pair by pair.
use Rattle.std.specs.Prelude.{◌≡◌, ℕ, suc, ◌<◌, cond, List, [], ◌∷◌, length, Some, None, Option, ◌==◌, refl}
use Rattle.std.specs.Option.{MatchOption}
use Rattle.std.proofs.Common.{arith}
use Rattle.std.proofs.lemmas.Bool.{ne_eqb}
use Rattle.words.specs.Forms.{ReadsByForms, first_pair}
use Rattle.words.specs.HexText.{hex_byte, hex_value, onto, pairs}
use Rattle.words.specs.SymbolText.{before_rest}

first : (b : Option ℕ) (rest : List ℕ) → MatchOption (before_rest b rest) (onto b (pairs rest) ≡ cond (suc (suc (length rest)) == 0) (Some []) None) (λ p. (length p.1 < suc (suc (length rest))) × (onto b (pairs rest) ≡ onto (Some p.0) (pairs p.1)))
first None rest = rw (ne_eqb (suc (suc (length rest))) 0 (λ e. omega arith))
first (Some b) rest = (omega arith, refl)

pub pairs_by_forms : ReadsByForms first_pair pairs
pairs_by_forms [] = refl
pairs_by_forms (h ∷ []) = refl
pairs_by_forms (h ∷ l ∷ rest) = first (hex_byte (hex_value h) (hex_value l)) rest
