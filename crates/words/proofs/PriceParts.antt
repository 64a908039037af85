-- A price's text, split at its point.
use Rattle.std.proofs.Common.{◌≡◌, ℕ, ◌/◌, ◌%◌, ◌-◌, ◌^◌, ◌<◌, false, List, [], ◌++◌, length, Some, None, decimal, Bor, inl, inr, arith}
use Rattle.std.proofs.lemmas.Bool.{cases_lt}
use Rattle.std.proofs.lemmas.Bool.Decides.{nat_tests}
use Rattle.std.proofs.lemmas.Fmt.{decimal_digit, decimal_step}
use Rattle.std.proofs.lemmas.Str.Pattern.{IsSplitOnceResult}
use Rattle.std.specs.Fmt.{char_count, format_spec, padded_integral}
use Rattle.words.specs.Numeral.{number, number_below}
use Rattle.words.specs.PriceText.{decimals, hundredths, price_of, read_price}
use Rattle.words.proofs.Cuts.{cut}
use Rattle.words.proofs.Numerals.{short}

-- no more than two digits fit 32 bits
pub two_digits : (ds : List ℕ) → number_below (2 ^ 32) ds ≡ None → decimals ds ≡ None
two_digits ds e = grind (arith, nat_tests, short ds)

pub one_digit : (ds : List ℕ) (n : ℕ) → number_below (2 ^ 32) ds ≡ Some n → length ds ≡ 1 → n < 100
one_digit ds n e one = grind (arith, nat_tests, short ds)

-- a word with a point, and one with none
pub pointed : (word : List ℕ) (x : Bor (List ℕ) × Bor (List ℕ)) → IsSplitOnceResult 46 word (Some x) → read_price word ≡ price_of (number x.0.now) (decimals x.1.now)
pointed word x h =
    let parts = cut 46 word (Some x) h (omega arith) in
    (λ i. price_of (number (parts.0 i)) (hundredths (parts.1 i)))

pub unpointed : (word : List ℕ) → IsSplitOnceResult 46 word None → read_price word ≡ price_of (number word) (Some 0)
unpointed word h =
    let parts = cut 46 word None h (omega arith) in
    (λ i. price_of (number (parts.0 i)) (hundredths (parts.1 i)))

-- what `{:02}` writes of a number below a hundred
pub two_decimals : (n : ℕ) → n < 100 → padded_integral (format_spec 32 0 4 2 (2 ^ 64 - 1)) false [] (decimal n) ≡ decimal (n / 10) ++ decimal (n % 10)
unfolding padded_integral char_count
two_decimals n small =
    elim (cases_lt n 10) [
      | inl one ↦
          let high : n / 10 ≡ 0 = omega arith in
          let low : n % 10 ≡ n = omega arith in
          rw (high, low, decimal_digit 0 (omega arith), decimal_digit n one)
      | inr two ↦ rw (decimal_step n two (omega arith), decimal_digit (n / 10) (omega arith), decimal_digit (n % 10) (omega arith))
    ]
