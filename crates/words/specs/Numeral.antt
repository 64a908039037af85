-- Whole numbers in decimal digits.
use Rattle.std.specs.Prelude.{ℕ, ◌+◌, ◌-◌, ◌*◌, Bool, cond, ◌&&◌, List, [], ◌∷◌, length, Some, None, Option, nat_lt}
use Rattle.std.specs.Str.{all_ascii_digits}

-- one digit or more, and nothing else
abbrev pub is_numeral : List ℕ → Bool
is_numeral word = nat_lt 0 (length word) && all_ascii_digits word

-- the number that digits write, after those of n
abbrev pub value_after : ℕ → List ℕ → ℕ
value_after n [] = n
value_after n (c ∷ cs) = value_after (n * 10 + (c - 48)) cs

-- the number that the word writes
abbrev pub number : List ℕ → Option ℕ
number word = cond (is_numeral word) (Some (value_after 0 word)) None

-- the same where it is below the limit
abbrev pub number_below : ℕ → List ℕ → Option ℕ
number_below limit word = cond (is_numeral word && nat_lt (value_after 0 word) limit) (Some (value_after 0 word)) None
