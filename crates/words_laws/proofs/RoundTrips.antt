-- What is printed reads back.
use Rattle.std.proofs.Common.{◌≡◌, ℕ, suc, ◌+◌, ◌*◌, ◌/◌, ◌%◌, ◌^◌, ◌<◌, ◌≤◌, Bool, true, false, cond, eqb, List, [], ◌∷◌, ◌++◌, length, get_or, Some, None, codes, decimal, Option, sym, refl, ap, ◌∙◌, append-nil, arith, length-append, rules}
use Rattle.std.proofs.lemmas.Fmt.{decimal_digit, decimal_nonempty, digits_decimal, digits_value-decimal}
use Rattle.std.proofs.lemmas.Str.Parse.{not_in_digits}
use Rattle.std.proofs.lemmas.Bool.{eqb-true, eqb-false, ne_eqb, true≢false}
use Rattle.std.proofs.lemmas.Bool.Decides.{nat_tests}
use Rattle.std.specs.Option.{option_map}
use Rattle.words.specs.declared.prices.Price.{Price}
use Rattle.words.specs.declared.refusals.Refusal.{Refusal}
use Rattle.std.specs.List.{flat_map, AllByRecursion}
use Rattle.std.specs.Str.{all_ascii_digits}
use Rattle.words.specs.Forms.{ReadsByForms, first_pair}
use Rattle.words.specs.HexForms.{pairs_by_forms}
use Rattle.words.specs.HexText.{hex_byte, hex_digit, hex_value, onto, pair_text, pairs}
use Rattle.words_laws.specs.Laws.{PricesReread, SymbolsReread, BytesReread, RefusalsReread}
use Rattle.words.specs.Numeral.{value_after, number, number_below}
use Rattle.words.specs.PriceText.{decimals, hundredths, price_of}
use Rattle.words.specs.RefusalText.{place_of, both, refusal_text}
use Rattle.words.specs.SymbolText.{is_plain, form, before_rest, first_form, all_forms, read_symbol}
use Rattle.words.specs.SymbolForms.{symbols_by_forms}
use Rattle.words.proofs.Numerals.{own}
use Rattle.words.proofs.Cuts.{Lacks, before_split, after_split, before_whole, after_whole}
use Rattle.words.proofs.RefusalParts.{after_front}

-- decimals
lacks : (c n : ℕ) → c < 48 → n < 2 ^ 64 → Lacks c (decimal n)
lacks c n low fits = not_in_digits own (decimal n) c (digits_decimal own n fits) (λ d. omega arith)

number_decimal : (n : ℕ) → n < 2 ^ 64 → number (decimal n) ≡ Some n
number_decimal n fits =
    let some = decimal_nonempty n fits in
    let all : all_ascii_digits (decimal n) ≡ true = digits_decimal own n fits in
    let is : value_after 0 (decimal n) ≡ n = digits_value-decimal own n fits in
    grind (arith, nat_tests)

below_decimal : (limit n : ℕ) → n < limit → n < 2 ^ 64 → number_below limit (decimal n) ≡ Some n
below_decimal limit n low fits =
    let some = decimal_nonempty n fits in
    let all : all_ascii_digits (decimal n) ≡ true = digits_decimal own n fits in
    let is : value_after 0 (decimal n) ≡ n = digits_value-decimal own n fits in
    grind (arith, nat_tests)

two_decimals : (t h : ℕ) → t < 10 → h < 10 → decimals (decimal t ++ decimal h) ≡ Some (t * 10 + h)
two_decimals t h tens ones = rw (decimal_digit t tens, decimal_digit h ones) (grind (arith, nat_tests))

whole_price : (p : ℕ) → p < 2 ^ 32 → price_of (Some (p / 100)) (Some (p / 10 % 10 * 10 + p % 10)) ≡ Some p
whole_price p fits =
    let is : p / 100 * 100 + (p / 10 % 10 * 10 + p % 10) ≡ p = omega arith in
    grind (arith, nat_tests)

pub prices : PricesReread
prices p fits =
    let apart = lacks 46 (p / 100) (omega arith) (omega arith) in
    let tail = decimal (p / 10 % 10) ++ decimal (p % 10) in
    (λ i. price_of (number (before_split 46 (decimal (p / 100)) tail apart i)) (hundredths (after_split 46 (decimal (p / 100)) tail apart i)))
    ∙ (λ i. price_of (number_decimal (p / 100) (omega arith) i) (two_decimals (p / 10 % 10) (p % 10) (omega arith) (omega arith) i))
    ∙ whole_price p fits

-- refusals
pub refusals : RefusalsReread
refusals code None low fits =
    let apart = lacks 32 code (omega arith) (omega arith) in
    after_front (refusal_text code None) (decimal code) refl
    ∙ (λ i. both (number_below 256 (before_whole 32 (decimal code) apart i)) (place_of (after_whole 32 (decimal code) apart i)))
    ∙ ap (λ (o : Option ℕ). both o (Some None)) (below_decimal 256 code low (omega arith))
refusals code (Some place) low fits =
    let apart = lacks 32 code (omega arith) (omega arith) in
    let tail = codes "at " ++ decimal place in
    after_front (refusal_text code (Some place)) (decimal code ++ (32 ∷ tail)) refl
    ∙ (λ i. both (number_below 256 (before_split 32 (decimal code) tail apart i)) (place_of (after_split 32 (decimal code) tail apart i)))
    ∙ (λ i. both (below_decimal 256 code low (omega arith) i) (option_map (λ n. Some n) (below_decimal (2 ^ 64) place fits fits i)))

-- hex
digit_back : (d : ℕ) → d < 16 → hex_value (hex_digit d) ≡ Some d
digit_back d low = grind (arith, nat_tests)

pair_back : (b : ℕ) → b < 256 → hex_byte (hex_value (hex_digit (b / 16))) (hex_value (hex_digit (b % 16))) ≡ Some b
pair_back b low =
    let is : b / 16 * 16 + b % 16 ≡ b = omega arith in
    (λ i. hex_byte (digit_back (b / 16) (omega arith) i) (digit_back (b % 16) (omega arith) i)) ∙ ap (λ (n : ℕ). Some n) is

-- where the text of a byte, before any other text, reads as that byte, the text of many reads as them
rows_back : (form : ℕ → List ℕ) (first : List ℕ → Option (ℕ × List ℕ)) (all : List ℕ → Option (List ℕ)) → ReadsByForms first all → all [] ≡ Some [] → ((b : ℕ) → b < 256 → (rest : List ℕ) → first (form b ++ rest) ≡ Some (b, rest)) → (bs : List ℕ) → AllByRecursion (λ b. b < 256) bs → all (flat_map form bs) ≡ Some bs
rows_back form first all reads none back [] fit = none
rows_back form first all reads none back (b ∷ bs) fit =
    let law = rw (back b fit.0 (flat_map form bs)) at (reads (form b ++ flat_map form bs)) in
    law.1 ∙ ap (onto (Some b)) (rows_back form first all reads none back bs fit.1)

pairs_back : (bs : List ℕ) → AllByRecursion (λ b. b < 256) bs → pairs (flat_map pair_text bs) ≡ Some bs
pairs_back = rows_back pair_text first_pair pairs pairs_by_forms refl (λ b low rest. ap (λ (o : Option ℕ). before_rest o rest) (pair_back b low))

pub bytes : BytesReread
bytes [] fit = refl
bytes (b ∷ bs) fit = pairs_back (b ∷ bs) fit

-- symbols
plain_apart : (b : ℕ) → is_plain b ≡ true → eqb b 92 ≡ false
plain_apart b e = grind (arith, nat_tests)

form_back : (b : ℕ) → b < 256 → (rest : List ℕ) (t : Bool) → is_plain b ≡ t → first_form (cond t (b ∷ []) (92 ∷ 120 ∷ pair_text b) ++ rest) ≡ Some (b, rest)
form_back b low rest true e = rw (e, plain_apart b e)
form_back b low rest false e = ap (λ (o : Option ℕ). before_rest o rest) (pair_back b low)

forms_back : (bs : List ℕ) → AllByRecursion (λ b. b < 256) bs → all_forms (flat_map form bs) ≡ Some bs
forms_back = rows_back form first_form all_forms symbols_by_forms refl (λ b low rest. form_back b low rest (is_plain b) refl)

no_dash : (word : List ℕ) → false ≡ eqb (length word) 0 → (word ≡ 45 ∷ [] → ⊥) → all_forms word ≡ read_symbol word
no_dash [] some dash = absurd (true≢false (sym some))
no_dash (c ∷ []) some dash =
    let apart : eqb c 45 ≡ false = ne_eqb c 45 (λ e. dash (ap (λ (x : ℕ). x ∷ []) e)) in rw apart
no_dash (c ∷ d ∷ cs) some dash = refl

form_some : (b : ℕ) (t : Bool) → 1 ≤ length (cond t (b ∷ []) (92 ∷ 120 ∷ pair_text b))
form_some b true = omega arith
form_some b false = omega arith

form_dash : (b : ℕ) (t : Bool) → (b ≡ 45 → ⊥) → cond t (b ∷ []) (92 ∷ 120 ∷ pair_text b) ≡ 45 ∷ [] → ⊥
form_dash b true apart e = apart (cc)
form_dash b false apart e = let n : ◌≡◌ {A = ℕ} 4 1 = ap length e in omega arith

some : (text : List ℕ) → 1 ≤ length text → false ≡ eqb (length text) 0
some text long = grind (arith, nat_tests)

one_symbol : (b : ℕ) → b < 256 → (t : Bool) → eqb b 45 ≡ t → read_symbol (cond t (92 ∷ 120 ∷ pair_text 45) (form b)) ≡ Some (b ∷ [])
one_symbol b low true e = ap (λ (n : ℕ). Some (n ∷ [])) (sym (eqb-true b 45 e))
one_symbol b low false e =
    sym (no_dash (form b) (some (form b) (form_some b (is_plain b))) (form_dash b (is_plain b) (eqb-false b 45 e)))
    ∙ ap all_forms (sym (append-nil (form b)))
    ∙ forms_back (b ∷ []) (low, tt)

pub symbols : SymbolsReread
symbols [] fit = refl
symbols (b ∷ []) fit = one_symbol b fit.0 (eqb b 45) refl
symbols (b ∷ c ∷ bs) fit =
    let text = flat_map form (b ∷ c ∷ bs) in
    let long : 2 ≤ length text =
    simp length-append (omega (arith, form_some b (is_plain b), form_some c (is_plain c))) in
    sym (no_dash text (some text (omega arith)) (λ e. let n : length text ≡ 1 = ap length e in omega arith)) ∙ forms_back (b ∷ c ∷ bs) fit

pub all_bytes : (bs : List ℕ) → ((i : ℕ) → get_or bs i 0 < 256) → AllByRecursion (λ b. b < 256) bs
all_bytes [] low = tt
all_bytes (b ∷ bs) low = (low 0, all_bytes bs (λ i. low (suc i)))

-- a price is its number, and a refusal its code and place
pub one_price : (o : Option Price) (p : Price) → option_map (λ x. x.0) o ≡ Some p.0 → o ≡ Some p
one_price None p e = cc
one_price (Some q) p e = let same : q.0 ≡ p.0 = cc in ap (λ (x : Price). Some x) (search rules)

abbrev rebuilt : Option (ℕ × Option ℕ) → Option Refusal
rebuilt None = None
rebuilt (Some p) = Some (record { code = p.0; place = p.1 })

pub one_refusal : (o : Option Refusal) (r : Refusal) → option_map {U = ℕ × Option ℕ} (λ x. (x.code, x.place)) o ≡ Some (r.code, r.place) → o ≡ Some r
one_refusal None r e = cc
one_refusal (Some q) r e = ap rebuilt e
