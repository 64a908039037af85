-- What follows from any lawful meaning at a price that it takes.
use Rattle.std.specs.Prelude.{◌≡◌, ℕ, ◌%◌, ◌<◌, ◌≤◌, true}
use Rattle.limits.specs.Meaning.{Meaning}
use Rattle.limits.specs.Around.{bounds, within}
use Rattle.limits.specs.declared.bounds.Bounds.{Bounds}

-- Offsets rise with the level, and each is below the price.
pub record Graded (m : Meaning) (p : ℕ) : Type 0 where
  pub rises : (k l : ℕ) → 1 ≤ k → k < l → l ≤ m.levels → m.offset k p < m.offset l p
  pub below : (l : ℕ) → 1 ≤ l → l ≤ m.levels → m.offset l p < p

-- A price once inside stays inside as either side's level rises.
abbrev pub Widens : Meaning → ℕ → ℕ → Type 0
Widens m tick p =
    (a b c d q : ℕ) → a ≤ c → b ≤ d → c ≤ m.levels → d ≤ m.levels
    → within (bounds m tick p a b) q ≡ true → within (bounds m tick p c d) q ≡ true

-- n is the largest multiple of a step that is not above x.
pub record Largest (step x n : ℕ) : Type 0 where
  pub whole : n % step ≡ 0
  pub low : n ≤ x
  pub last : (q : ℕ) → q % step ≡ 0 → q ≤ x → q ≤ n

-- n is the smallest multiple of a step that is not below x.
pub record Smallest (step x n : ℕ) : Type 0 where
  pub whole : n % step ≡ 0
  pub high : x ≤ n
  pub first : (q : ℕ) → q % step ≡ 0 → x ≤ q → n ≤ q

-- The edges of both limits.
pub record Edges (tick : ℕ) (b : Bounds) : Type 0 where
  pub upper : Largest tick b.upper b.upper_edge
  pub lower : Smallest tick b.lower b.lower_edge
