-- What is printed reads back.
use Rattle.std.specs.Prelude.{◌≡◌, ℕ, ◌^◌, ◌<◌, List, IfSome, Some, Option}
use Rattle.std.specs.List.{AllByRecursion}
use Rattle.words.specs.HexText.{bytes_text, read_bytes}
use Rattle.words.specs.PriceText.{price_text, read_price}
use Rattle.words.specs.RefusalText.{refusal_text, read_refusal}
use Rattle.words.specs.SymbolText.{symbol_text, read_symbol}

abbrev pub PricesReread : Type 0
PricesReread = (p : ℕ) → p < 2 ^ 32 → read_price (price_text p) ≡ Some p

abbrev pub SymbolsReread : Type 0
SymbolsReread = (bs : List ℕ) → AllByRecursion (λ b. b < 256) bs → read_symbol (symbol_text bs) ≡ Some bs

abbrev pub BytesReread : Type 0
BytesReread = (bs : List ℕ) → AllByRecursion (λ b. b < 256) bs → read_bytes (bytes_text bs) ≡ Some bs

abbrev pub RefusalsReread : Type 0
RefusalsReread = (code : ℕ) (place : Option ℕ) → code < 256 → IfSome place (λ n. n < 2 ^ 64) → read_refusal (refusal_text code place) ≡ Some (code, place)
