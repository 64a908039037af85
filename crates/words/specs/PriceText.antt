-- Prices in hundredths of a point, as text in points.
use Rattle.std.specs.Prelude.{ℕ, ◌+◌, ◌*◌, ◌/◌, ◌%◌, ◌^◌, cond, List, ◌++◌, length, Some, None, codes, decimal, Option, ◌==◌, nat_lt}
use Rattle.words.specs.Cuts.{before, after}
use Rattle.words.specs.Numeral.{is_numeral, value_after, number}

-- points, and two decimals
abbrev pub price_text : ℕ → List ℕ
price_text p = decimal (p / 100) ++ (codes "." ++ (decimal (p / 10 % 10) ++ decimal (p % 10)))

-- one or two decimals, in hundredths
abbrev pub decimals : List ℕ → Option ℕ
decimals ds =
    cond (is_numeral ds)
    (cond (length ds == 1) (Some (value_after 0 ds * 10)) (cond (length ds == 2) (Some (value_after 0 ds)) None))
    None

-- none written are none
abbrev pub hundredths : Option (List ℕ) → Option ℕ
hundredths None = Some 0
hundredths (Some ds) = decimals ds

-- the price of so many points and hundredths, where it fits 32 bits
abbrev pub price_of : Option ℕ → Option ℕ → Option ℕ
price_of None h = None
price_of (Some p) None = None
price_of (Some p) (Some h) = cond (nat_lt (p * 100 + h) (2 ^ 32)) (Some (p * 100 + h)) None

-- points, and after a point (code 46) one or two decimals
abbrev pub read_price : List ℕ → Option ℕ
read_price word = price_of (number (before 46 word)) (hundredths (after 46 word))
