-- Bytes read form by form.
use Rattle.std.proofs.Common.{◌≡◌, ℕ, List, [], ◌∷◌, ◌++◌, Some, None, Option, refl, sym, ap, ◌∙◌, append_assoc}
use Rattle.std.specs.Option.{option_map}
use Rattle.words.specs.HexText.{onto}

after_onto : (xs : List ℕ) (b : ℕ) (o : Option (List ℕ)) → option_map (λ bs. (xs ++ (b ∷ [])) ++ bs) o ≡ option_map (λ bs. xs ++ bs) (onto (Some b) o)
after_onto xs b None = refl
after_onto xs b (Some bs) = ap (λ (l : List ℕ). Some l) (append_assoc xs (b ∷ []) bs)

-- one turn of the loop
pub more : (xs ys : List ℕ) (b : ℕ) (rest text whole : Option (List ℕ)) → ys ≡ xs ++ (b ∷ []) → text ≡ onto (Some b) rest → option_map (λ bs. xs ++ bs) text ≡ whole → option_map (λ bs. ys ++ bs) rest ≡ whole
more xs ys b rest text whole grown read so_far =
    ap (λ (zs : List ℕ). option_map (λ bs. zs ++ bs) rest) grown
    ∙ after_onto xs b rest
    ∙ ap (option_map (λ bs. xs ++ bs)) (sym read)
    ∙ so_far
