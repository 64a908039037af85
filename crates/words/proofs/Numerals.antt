-- Whole numbers in decimal digits: what `parse` reads where there is no plus.
use Rattle.std.proofs.Common.{◌≡◌, ℕ, ◌^◌, ◌<◌, ◌≤◌, true, List, length, get_or, Ok, Err, Result, arith, rules}
use Rattle.std.proofs.lemmas.Str.Parse.{IsNumeralModel, numerals_by_fold, tells_all_ascii_digits, parse_plain, digits_value_short}
use Rattle.std.proofs.lemmas.Bool.Decides.{nat_tests}
use Rattle.std.specs.Result.{OkIff, result_ok}
use Rattle.std.specs.Str.Parse.{ParsesUnsigned}
use Rattle.std.specs.Str.{all_ascii_digits}
use Rattle.words.specs.Numeral.{value_after, number_below}

pub own : IsNumeralModel (λ ds. all_ascii_digits ds ≡ true) (value_after 0)
own = numerals_by_fold _ tells_all_ascii_digits value_after (search rules)

converted : {E : Type 0} (limit : ℕ) (bs : List ℕ) (r : Result ℕ E) → OkIff r ((all_ascii_digits bs ≡ true) × (0 < length bs) × (value_after 0 bs < limit)) (value_after 0 bs) → result_ok r ≡ number_below limit bs
converted limit bs (Ok x) h = grind (arith, nat_tests)
converted limit bs (Err e) h = grind (arith, nat_tests)

pub reads : {E : Type 0} (k : ℕ) (bs : List ℕ) (r : Result ℕ E) → ParsesUnsigned k 10 bs r → (get_or bs 0 0 ≡ 43 → ⊥) → result_ok r ≡ number_below (2 ^ k) bs
reads k bs r h plain = converted (2 ^ k) bs r (parse_plain own k bs r h plain)

-- a numeral of at most two digits is below a hundred
pub short : (ds : List ℕ) → all_ascii_digits ds ≡ true → length ds ≤ 2 → value_after 0 ds < 100
short ds p two = digits_value_short own ds 2 p two
