-- Bytes as text, two hex digits each.
use Rattle.std.specs.Prelude.{ℕ, ◌+◌, ◌-◌, ◌*◌, ◌/◌, ◌%◌, cond, List, [], ◌∷◌, Some, None, codes, Option, ◌==◌, nat_lt}
use Rattle.std.specs.List.{flat_map}
use Rattle.std.specs.Int.{is_in_range}

-- the digit of a value below 16, in upper case
abbrev pub hex_digit : ℕ → ℕ
hex_digit d = cond (nat_lt d 10) (48 + d) (55 + d)

-- the value of a digit of either case
abbrev pub hex_value : ℕ → Option ℕ
hex_value c =
    cond (is_in_range 48 57 c) (Some (c - 48))
    (cond (is_in_range 65 70 c) (Some (c - 55)) (cond (is_in_range 97 102 c) (Some (c - 87)) None))

-- the byte of a high and a low digit
abbrev pub hex_byte : Option ℕ → Option ℕ → Option ℕ
hex_byte None l = None
hex_byte (Some h) None = None
hex_byte (Some h) (Some l) = Some (h * 16 + l)

abbrev pub pair_text : ℕ → List ℕ
pair_text b = hex_digit (b / 16) ∷ hex_digit (b % 16) ∷ []

-- no bytes are a dash
abbrev pub bytes_text : List ℕ → List ℕ
bytes_text [] = codes "-"
bytes_text (b ∷ bs) = flat_map pair_text (b ∷ bs)

-- a byte before others, where both are there
abbrev pub onto : Option ℕ → Option (List ℕ) → Option (List ℕ)
onto None bs = None
onto (Some b) None = None
onto (Some b) (Some bs) = Some (b ∷ bs)

-- two digits to a byte, to the end of the text
abbrev pub pairs : List ℕ → Option (List ℕ)
pairs [] = Some []
pairs (h ∷ []) = None
pairs (h ∷ l ∷ rest) = onto (hex_byte (hex_value h) (hex_value l)) (pairs rest)

-- a dash (code 45) alone is the empty row, and the empty text is none
abbrev pub read_bytes : List ℕ → Option (List ℕ)
read_bytes [] = None
read_bytes (c ∷ []) = cond (c == 45) (Some []) None
read_bytes (c ∷ d ∷ cs) = pairs (c ∷ d ∷ cs)
