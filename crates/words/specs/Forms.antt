-- Bytes as text, a form for each byte.
use Rattle.std.specs.Prelude.{◌≡◌, ℕ, ◌<◌, cond, List, [], ◌∷◌, length, Some, None, codes, Option, ◌==◌}
use Rattle.std.specs.List.{flat_map}
use Rattle.std.specs.Option.{MatchOption}
use Rattle.words.specs.HexText.{hex_byte, hex_value, onto}
use Rattle.words.specs.SymbolText.{before_rest}

-- what a whole text writes, if `first` is its first byte and the text after that byte's form: byte after byte to the end
abbrev pub ReadsByForms : (List ℕ → Option (ℕ × List ℕ)) → (List ℕ → Option (List ℕ)) → Type 0
ReadsByForms first all =
    (text : List ℕ) → MatchOption (first text) (all text ≡ cond (length text == 0) (Some []) None)
    (λ p. (length p.1 < length text) × (all text ≡ onto (Some p.0) (all p.1)))

-- no bytes are a dash
abbrev pub row_text : (ℕ → List ℕ) → List ℕ → List ℕ
row_text form [] = codes "-"
row_text form (b ∷ bs) = flat_map form (b ∷ bs)

-- a dash (code 45) alone is no bytes, and the empty text is none
abbrev pub read_row : (List ℕ → Option (List ℕ)) → List ℕ → Option (List ℕ)
read_row all [] = None
read_row all (c ∷ []) = cond (c == 45) (Some []) (all (c ∷ []))
read_row all (c ∷ d ∷ cs) = all (c ∷ d ∷ cs)

-- the byte that the first two hex digits of a text write, and the text after them
abbrev pub first_pair : List ℕ → Option (ℕ × List ℕ)
first_pair [] = None
first_pair (h ∷ []) = None
first_pair (h ∷ l ∷ rest) = before_rest (hex_byte (hex_value h) (hex_value l)) rest
