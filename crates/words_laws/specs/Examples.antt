-- Worked examples of the formats.
use Rattle.std.specs.Prelude.{◌≡◌, [], ◌∷◌, Some, None, codes}
use Rattle.words.specs.HexText.{bytes_text, read_bytes}
use Rattle.words.specs.PriceText.{price_text, read_price}
use Rattle.words.specs.RefusalText.{refusal_text, read_refusal}
use Rattle.words.specs.SymbolText.{symbol_text, read_symbol}

pub record Examples : Type 0 where
  pub price : price_text 3813166 ≡ codes "38131.66"
  pub whole_price : price_text 3813000 ≡ codes "38130.00"
  pub small_price : price_text 5 ≡ codes "0.05"
  pub tenths : read_price (codes "38130.5") ≡ Some 3813050
  pub bare_point : read_price (codes "38130.") ≡ None
  pub third_decimal : read_price (codes "1.234") ≡ None
  pub past_32_bits : read_price (codes "42949672.96") ≡ None
  pub symbol : symbol_text (78 ∷ 75 ∷ 32 ∷ 92 ∷ []) ≡ codes "NK\\x20\\x5C"
  pub dash : symbol_text (45 ∷ []) ≡ codes "\\x2D"
  pub lower_case : read_symbol (codes "A\\x2d-") ≡ Some (65 ∷ 45 ∷ 45 ∷ [])
  pub bytes : bytes_text (0 ∷ 171 ∷ []) ≡ codes "00AB"
  pub odd_digits : read_bytes (codes "00A") ≡ None
  pub refusal : refusal_text 4 (Some 18) ≡ codes "refused 4 at 18"
  pub refusal_read : read_refusal (codes "refused 12") ≡ Some (12, None)
