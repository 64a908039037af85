use Rattle.std.proofs.Common.{◌≡◌, ◌+◌, ◌*◌, ◌≤◌, drop, sum}
use Rattle.limits.specs.Meaning.{points}
use Rattle.rules.specs.Figures.{each_sound}
use Rattle.rules.proofs.quarterly.Quarterly.from_closes.Given as goal

-- the closes still to come complete the sum and decide whether each is sound
abbrev pub invariant-loop-close : goal.invariant-loop-close
invariant-loop-close l =
    (l.total + sum (drop l.close-index l.closes) ≡ sum l.closes)
    × (each_sound (drop l.close-index l.closes) ≡ each_sound l.closes)
    × (points 1000 * l.close-index ≤ l.total)
    × (l.total ≤ points 200000 * l.close-index)
