-- The laws of the reading together.
use Rattle.std.proofs.Common.{ℕ}
use Rattle.watch_laws.specs.Laws.{Laws}
use Rattle.watch_laws.proofs.Bridges.{reads}
use Rattle.watch_laws.proofs.Rises.{rises, keeps}
use Rattle.watch_laws.proofs.Covering.{halts}

pub laws : (n : ℕ) → Laws n
laws n = record { reads = reads n; levels = rises n; levels_kept = keeps n; halts = halts n }
