-- What the daily, the quarterly and the monthly rule mean.
use Rattle.std.specs.Prelude.{ℕ, ◌*◌, ◌/◌, ◌%◌, Bool, cond, ◌&&◌, ◌==◌, nat_le, nat_lt}
use Rattle.limits.specs.Meaning.{Meaning, points}

-- A price that is a multiple of the unit from 1,000 to 200,000 points, with the last offset below it.
abbrev pub suits : ℕ → ℕ → ℕ → Bool
suits unit last p = p % unit == 0 && (nat_le (points 1000) p && (nat_le p (points 200000) && nat_lt last p))

-- The rule of a unit, a number of levels and offsets that takes every price that suits them.
abbrev pub taking : ℕ → ℕ → (ℕ → ℕ → ℕ) → Meaning
taking unit levels offset = record {
  unit = unit;
  levels = levels;
  takes = λ p. suits unit (offset levels p) p;
  offset = offset;
}

-- 8, 12 and 16 percent at the levels 1, 2 and 3.
abbrev pub percent_at : ℕ → ℕ
percent_at level = cond (level == 1) 8 (cond (level == 2) 12 16)

-- A level's percentage of sum / count, rounded down to a multiple of 10 points. There is one division: neither the
-- quotient nor the percentage is rounded before.
abbrev pub share : ℕ → ℕ → ℕ → ℕ
share level sum count = percent_at level * sum / (100 * count * points 10) * points 10

-- Daily: unit 10 points, three levels, percentages of the price itself.
abbrev pub daily : Meaning
daily = taking (points 10) 3 (λ level p. share level p 1)

-- Quarterly: unit 1 point, three levels, percentages of the average of twenty closes, whatever the price.
abbrev pub quarterly : ℕ → Meaning
quarterly total = taking (points 1) 3 (λ level p. share level total 20)

-- 1,000 points for a settlement up to 20,000, 1,500 up to 30,000, and 2,000 above.
abbrev pub bracket : ℕ → ℕ
bracket settlement =
    cond (nat_le settlement (points 20000)) (points 1000) (cond (nat_le settlement (points 30000)) (points 1500) (points 2000))

-- Monthly: unit 5 points, one level, the bracket of the lead month's settlement, whatever the price.
abbrev pub monthly : ℕ → Meaning
monthly settlement = taking (points 5) 1 (λ level p. bracket settlement)
