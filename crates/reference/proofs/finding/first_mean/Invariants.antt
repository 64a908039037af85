use Rattle.std.proofs.Common.{◌≡◌, drop}
use Rattle.reference.specs.Finding.{first_tier, mean_in}
use Rattle.reference.proofs.finding.first_mean.Given as goal

abbrev pub invariant-loop-tier : goal.invariant-loop-tier
invariant-loop-tier l =
    first_tier (mean_in l.tallies) l.windows (drop l.tier-index l.tiers) ≡ first_tier (mean_in l.tallies) l.windows l.tiers
