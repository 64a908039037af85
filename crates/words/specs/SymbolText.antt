-- Symbols as text, byte by byte.
use Rattle.std.specs.Prelude.{ℕ, zero, suc, Bool, cond, not, ◌&&◌, List, [], ◌∷◌, length, Some, None, codes, Option, ◌==◌}
use Rattle.std.specs.List.{flat_map}
use Rattle.std.specs.Int.{is_in_range}
use Rattle.words.specs.HexText.{hex_byte, hex_value, pair_text, onto}

-- visible ASCII but the backslash (code 92) stands for itself
abbrev pub is_plain : ℕ → Bool
is_plain b = is_in_range 33 126 b && not (b == 92)

-- any other byte is written `\xHH`
abbrev pub form : ℕ → List ℕ
form b = cond (is_plain b) (b ∷ []) (92 ∷ 120 ∷ pair_text b)

-- a dash is the empty symbol, so the symbol of one dash is written `\x2D`
abbrev pub symbol_text : List ℕ → List ℕ
symbol_text [] = codes "-"
symbol_text (b ∷ []) = cond (b == 45) (92 ∷ 120 ∷ pair_text 45) (form b)
symbol_text (b ∷ c ∷ bs) = flat_map form (b ∷ c ∷ bs)

-- a byte, where it is there, with the text after its form
abbrev pub before_rest : Option ℕ → List ℕ → Option (ℕ × List ℕ)
before_rest None rest = None
before_rest (Some b) rest = Some (b, rest)

-- what follows a backslash: `x` (code 120) and two hex digits
abbrev pub escape : List ℕ → Option (ℕ × List ℕ)
escape [] = None
escape (x ∷ []) = None
escape (x ∷ h ∷ []) = None
escape (x ∷ h ∷ l ∷ rest) = cond (x == 120) (before_rest (hex_byte (hex_value h) (hex_value l)) rest) None

-- the byte that the first form of a text writes, and the text after that form
abbrev pub first_form : List ℕ → Option (ℕ × List ℕ)
first_form [] = None
first_form (c ∷ cs) = cond (c == 92) (escape cs) (cond (is_plain c) (Some (c, cs)) None)

-- the first byte, before those that the text after it gives
abbrev pub and_then : Option (ℕ × List ℕ) → (List ℕ → Option (List ℕ)) → Option (List ℕ)
and_then None go = None
and_then (Some p) go = onto (Some p.0) (go p.1)

-- form after form to the end of the text, n of them at most
abbrev pub forms : ℕ → List ℕ → Option (List ℕ)
forms zero [] = Some []
forms zero (c ∷ cs) = None
forms (suc n) [] = Some []
forms (suc n) (c ∷ cs) = and_then (first_form (c ∷ cs)) (forms n)

abbrev pub all_forms : List ℕ → Option (List ℕ)
all_forms text = forms (length text) text

-- a dash (code 45) alone is the empty symbol, and the empty text is no symbol
abbrev pub read_symbol : List ℕ → Option (List ℕ)
read_symbol [] = None
read_symbol (c ∷ []) = cond (c == 45) (Some []) (all_forms (c ∷ []))
read_symbol (c ∷ d ∷ cs) = all_forms (c ∷ d ∷ cs)
