-- What keeps sums small and their mean a price.
use Rattle.std.proofs.Common.{ℕ, ◌*◌, ◌≤◌, mul-le-mul, arith}
use Rattle.reference.specs.Priced.{Fair}

pub fair_product : (s w v : ℕ) → Fair s w v → s ≤ 8 → w * v ≤ 160000000000000
fair_product s w v h few = let m = mul-le-mul h.0 h.1 in omega (arith, m)
