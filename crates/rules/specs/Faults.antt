-- The number of each fault.
use Rattle.std.specs.Prelude.{ℕ}
use Rattle.rules.specs.declared.fault.RuleFault.{RuleFault}
use Rattle.rules.specs.declared.fault.RuleFault.TheVariants.{Closes, Settlement}

abbrev pub number : RuleFault → ℕ
number Closes = 11
number Settlement = 11
