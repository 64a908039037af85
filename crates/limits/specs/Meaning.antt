-- What a limit rule means, and what every limit rule keeps. Prices and offsets are hundredths of a point.
use Rattle.std.specs.Prelude.{◌≡◌, ℕ, ◌+◌, ◌*◌, ◌%◌, ◌<◌, ◌≤◌, Bool, true, cond, ◌&&◌, Some, None, Option, nat_le}

abbrev pub points : ℕ → ℕ
points n = 100 * n

-- A rounding unit, a number of levels, the prices that the rule takes, and an offset for each level at each of them.
-- What `offset` says at another level or price counts for nothing.
pub record Meaning : Type 0 where
  pub unit : ℕ
  pub levels : ℕ
  pub takes : ℕ → Bool
  pub offset : ℕ → ℕ → ℕ

-- What a meaning keeps at a price that it takes: a multiple of the unit from 1,000 to 200,000 points, a first offset of
-- at least 5 points, each later one larger, and the last below the price.
pub record AtPrice (m : Meaning) (p : ℕ) : Type 0 where
  pub whole : p % m.unit ≡ 0
  pub low : points 1000 ≤ p
  pub high : p ≤ points 200000
  pub first : points 5 ≤ m.offset 1 p
  pub rises : (l : ℕ) → 1 ≤ l → l < m.levels → m.offset l p < m.offset (l + 1) p
  pub last : m.offset m.levels p < p

-- The unit is a whole number of points from 1 to 100, there are 1 to 8 levels, and each price taken keeps the above.
pub record Lawful (m : Meaning) : Type 0 where
  pub unit_whole : m.unit % points 1 ≡ 0
  pub unit_low : points 1 ≤ m.unit
  pub unit_high : m.unit ≤ points 100
  pub some : 1 ≤ m.levels
  pub few : m.levels ≤ 8
  pub at : (p : ℕ) → m.takes p ≡ true → AtPrice m p

-- The offset of a level at a price: none at a level 0 or past the last, or at a price that the rule does not take.
abbrev pub offset_at : Meaning → ℕ → ℕ → Option ℕ
offset_at m l p = cond (m.takes p && (nat_le 1 l && nat_le l m.levels)) (Some (m.offset l p)) None
