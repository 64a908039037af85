-- Offsets worked out by hand from the text of each rule.
use Rattle.std.specs.Prelude.{◌≡◌, ℕ, ◌+◌, true, false, List, [], ◌∷◌, ◌++◌, replicate, Some, None, sum}
use Rattle.limits.specs.Meaning.{points, offset_at}
use Rattle.rules.specs.Figures.{closes_sound, settlement_sound}
use Rattle.rules.specs.Named.{daily, quarterly, monthly}

abbrev pub mild : List ℕ
mild = replicate 19 (points 14000) ++ (points 14900 ∷ [])

-- nineteen closes of 14,083.33 and one of 14,083.40
abbrev pub uneven : List ℕ
uneven = replicate 19 (points 14083 + 33) ++ ((points 14083 + 40) ∷ [])

pub record Worked : Type 0 where
  pub daily_first : offset_at daily 1 (points 38130) ≡ Some (points 3050)
  pub daily_second : offset_at daily 2 (points 38130) ≡ Some (points 4570)
  pub daily_third : offset_at daily 3 (points 38130) ≡ Some (points 6100)
  pub daily_fourth : offset_at daily 4 (points 38130) ≡ None
  -- not twice the first
  pub daily_not_twice : offset_at daily 3 (points 38190) ≡ Some (points 6110)
  pub mild_sound : closes_sound mild ≡ true
  pub mild_first : offset_at (quarterly (sum mild)) 1 (points 14212) ≡ Some (points 1120)
  pub mild_second : offset_at (quarterly (sum mild)) 2 (points 14212) ≡ Some (points 1680)
  pub mild_third : offset_at (quarterly (sum mild)) 3 (points 14212) ≡ Some (points 2240)
  pub uneven_sound : closes_sound uneven ≡ true
  -- an average rounded first would give 1,680
  pub uneven_second : offset_at (quarterly (sum uneven)) 2 (points 14083) ≡ Some (points 1690)
  pub nineteen : closes_sound (replicate 19 (points 14000)) ≡ false
  pub monthly_20000 : offset_at (monthly (points 20000)) 1 (points 38130) ≡ Some (points 1000)
  pub monthly_20005 : offset_at (monthly (points 20005)) 1 (points 38130) ≡ Some (points 1500)
  pub monthly_30000 : offset_at (monthly (points 30000)) 1 (points 38130) ≡ Some (points 1500)
  pub monthly_30005 : offset_at (monthly (points 30005)) 1 (points 38130) ≡ Some (points 2000)
  pub monthly_step : settlement_sound (points 20003) ≡ false
  pub at_offset : (monthly (points 20000)).takes (points 1000) ≡ false
  pub past_offset : (monthly (points 20000)).takes (points 1005) ≡ true
