-- Refusals as text: a code, and the place where there is one.
use Rattle.std.specs.Prelude.{ℕ, ◌^◌, List, ◌++◌, Some, None, codes, decimal, Option}
use Rattle.std.specs.Option.{option_map}
use Rattle.words.specs.Cuts.{before, after, past}
use Rattle.words.specs.Numeral.{number_below}

abbrev pub refusal_text : ℕ → Option ℕ → List ℕ
refusal_text code None = codes "refused " ++ decimal code
refusal_text code (Some place) = codes "refused " ++ (decimal code ++ (codes " at " ++ decimal place))

-- a code fits a byte, and a place fits 64 bits
abbrev pub place_in : Option (List ℕ) → Option (Option ℕ)
place_in None = None
place_in (Some word) = option_map (λ n. Some n) (number_below (2 ^ 64) word)

-- no more text is no place
abbrev pub place_of : Option (List ℕ) → Option (Option ℕ)
place_of None = Some None
place_of (Some tail) = place_in (past (codes "at ") tail)

abbrev pub both : Option ℕ → Option (Option ℕ) → Option (ℕ × Option ℕ)
both None place = None
both (Some code) None = None
both (Some code) (Some place) = Some (code, place)

-- the code stands before the first blank (code 32)
abbrev pub code_and_place : Option (List ℕ) → Option (ℕ × Option ℕ)
code_and_place None = None
code_and_place (Some rest) = both (number_below 256 (before 32 rest)) (place_of (after 32 rest))

abbrev pub read_refusal : List ℕ → Option (ℕ × Option ℕ)
read_refusal text = code_and_place (past (codes "refused ") text)
