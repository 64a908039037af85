-- What it is to round a percentage of an average down, without a division.
use Rattle.std.specs.Prelude.{◌≡◌, ℕ, ◌+◌, ◌*◌, ◌%◌, ◌<◌, ◌≤◌}
use Rattle.limits.specs.Meaning.{points}

-- x is the largest multiple of 10 points that is not above that percentage of sum / count.
pub record PercentOf (percent sum count x : ℕ) : Type 0 where
  pub whole : x % points 10 ≡ 0
  pub low : 100 * count * x ≤ percent * sum
  pub high : percent * sum < 100 * count * (x + points 10)
