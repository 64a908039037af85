-- A refusal's text, split at its blanks.
use Rattle.std.proofs.Common.{◌≡◌, ℕ, List, ◌++◌, Some, None, Option, Bor, codes, sym, ap, ◌∙◌, arith}
use Rattle.std.proofs.lemmas.Str.Pattern.{IsSplitOnceResult}
use Rattle.std.specs.Option.{MatchOption}
use Rattle.words.specs.Numeral.{number_below}
use Rattle.words.specs.RefusalText.{both, place_of, code_and_place, read_refusal}
use Rattle.words.proofs.Cuts.{cut, past_front}

pub after_front : (text rest : List ℕ) → text ≡ codes "refused " ++ rest → read_refusal text ≡ code_and_place (Some rest)
after_front text rest e = ap read_refusal e ∙ ap code_and_place (past_front (codes "refused ") rest)

-- with a blank after the code, and with none
pub in_parts : (text rest tail : List ℕ) (r : Option (Bor (List ℕ) × Bor (List ℕ))) → text ≡ codes "refused " ++ tail → rest ≡ tail → IsSplitOnceResult 32 rest r → MatchOption r (read_refusal text ≡ both (number_below 256 rest) (Some None)) (λ x. read_refusal text ≡ both (number_below 256 x.0.now) (place_of (Some x.1.now)))
in_parts text rest tail None e is h =
    let parts = cut 32 rest None h (omega arith) in
    after_front text rest (e ∙ ap (λ (l : List ℕ). codes "refused " ++ l) (sym is))
    ∙ (λ i. both (number_below 256 (parts.0 i)) (place_of (parts.1 i)))
in_parts text rest tail (Some x) e is h =
    let parts = cut 32 rest (Some x) h (omega arith) in
    after_front text rest (e ∙ ap (λ (l : List ℕ). codes "refused " ++ l) (sym is))
    ∙ (λ i. both (number_below 256 (parts.0 i)) (place_of (parts.1 i)))
