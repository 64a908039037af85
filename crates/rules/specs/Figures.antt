-- The figures that a rule is made of.
use Rattle.std.specs.Prelude.{ℕ, ◌%◌, Bool, true, ◌&&◌, List, [], ◌∷◌, length, ◌==◌, nat_le}
use Rattle.limits.specs.Meaning.{points}

-- A close runs from 1,000 to 200,000 points; hundredths count.
abbrev pub close_sound : ℕ → Bool
close_sound close = nat_le (points 1000) close && nat_le close (points 200000)

abbrev pub each_sound : List ℕ → Bool
each_sound [] = true
each_sound (close ∷ closes) = close_sound close && each_sound closes

abbrev pub closes_sound : List ℕ → Bool
closes_sound closes = length closes == 20 && each_sound closes

-- A settlement is a multiple of 5 points up to 200,000.
abbrev pub settlement_sound : ℕ → Bool
settlement_sound settlement = settlement % points 5 == 0 && nat_le settlement (points 200000)
