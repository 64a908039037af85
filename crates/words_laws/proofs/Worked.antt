use Rattle.std.proofs.Common.{refl}
use Rattle.std.specs.Fmt.{digits}
use Rattle.words_laws.specs.Examples.{Examples}

pub examples : Examples
unfolding digits
examples = record {
  price = refl;
  whole_price = refl;
  small_price = refl;
  tenths = refl;
  bare_point = refl;
  third_decimal = refl;
  past_32_bits = refl;
  symbol = refl;
  dash = refl;
  lower_case = refl;
  bytes = refl;
  odd_digits = refl;
  refusal = refl;
  refusal_read = refl;
}
