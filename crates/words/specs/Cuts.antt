-- The parts of a text.
use Rattle.std.specs.Prelude.{ℕ, cond, List, [], ◌∷◌, Some, None, Option, ◌==◌}

-- what stands before the first c, and what stands after it
abbrev pub before : ℕ → List ℕ → List ℕ
before c [] = []
before c (x ∷ xs) = cond (x == c) [] (x ∷ before c xs)

abbrev pub after : ℕ → List ℕ → Option (List ℕ)
after c [] = None
after c (x ∷ xs) = cond (x == c) (Some xs) (after c xs)

-- what follows the front, in a text that begins with it
abbrev pub past : List ℕ → List ℕ → Option (List ℕ)
past [] text = Some text
past (c ∷ front) [] = None
past (c ∷ front) (d ∷ text) = cond (d == c) (past front text) None
