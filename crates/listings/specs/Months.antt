-- Month codes: their letters, how a word is read as one, and the March cycle.
use Rattle.std.specs.Prelude.{ℕ, ◌+◌, ◌-◌, ◌*◌, Bool, cond, ◌&&◌, List, [], ◌∷◌, is_some, Some, None, Ok, Err, codes, Option, Result, ◌==◌, nat_eq, nat_le, nat_lt}
use Rattle.std.specs.Option.{unwrap_or}
use Rattle.roster.specs.Places.{place_from, record_of}
use Rattle.listings.specs.declared.code.MonthCode.{MonthCode}

-- January to December
abbrev pub letters : List ℕ
letters = codes "FGHJKMNQUVXZ"

-- the month of a letter, counted from 1
abbrev pub month_of : ℕ → Option ℕ
month_of c = place_from 1 (nat_eq c) letters

-- whether a byte is a digit's, 0 to 9
abbrev pub is_digit : ℕ → Bool
is_digit b = nat_le 48 b && nat_le b 57

abbrev pub sound_code : MonthCode → Bool
sound_code c = is_some (month_of c.letter) && nat_lt c.year 100

abbrev pub same_code : MonthCode → MonthCode → Bool
same_code a b = a.letter == b.letter && a.year == b.year

-- the code that a letter and two digits write
abbrev pub code_of : ℕ → ℕ → ℕ → Result MonthCode ℕ
code_of c t o =
    cond (is_digit t && is_digit o && is_some (month_of c)) (Ok (record { letter = c; year = 10 * (t - 48) + (o - 48) })) (Err 21)

-- what a word's bytes are read as: a letter and two digits, and nothing else
abbrev pub read_code : List ℕ → Result MonthCode ℕ
read_code [] = Err 21
read_code (c ∷ []) = Err 21
read_code (c ∷ t ∷ []) = Err 21
read_code (c ∷ t ∷ o ∷ []) = code_of c t o
read_code (c ∷ t ∷ o ∷ b ∷ bs) = Err 21

-- the months in which futures fall due
abbrev pub march_cycle : List ℕ
march_cycle = codes "HMUZ"

-- whether a letter's month is the given one or a later one
abbrev pub not_before : ℕ → ℕ → Bool
not_before m c = nat_le m (unwrap_or (month_of c) 0)

-- the first letter of the March cycle from a letter's month on
abbrev pub cycle_from : Option ℕ → Option ℕ
cycle_from None = None
cycle_from (Some m) = record_of (not_before m) march_cycle

-- the code of the month that an option of this code is on; a malformed letter stays
abbrev pub underlying_code : MonthCode → MonthCode
underlying_code c = record { letter = unwrap_or (cycle_from (month_of c.letter)) c.letter; year = c.year }
