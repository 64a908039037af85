-- The number of every refusal of a day.
use Rattle.std.specs.Prelude.{ℕ, Ok, Err, Result}
use Rattle.day.specs.declared.fault.OpenFault.{OpenFault}
use Rattle.day.specs.declared.fault.OpenFault.TheVariants.{NotTaken}
use Rattle.day.specs.declared.fault.Refusal.{Refusal}
use Rattle.day.specs.declared.fault.Refusal.TheVariants.{Time, Malformed, NotListed, Halted, OutsideLimits, OptionStopped, OffEdge, UnderlyingNotListed}

abbrev pub open_number : OpenFault → ℕ
open_number NotTaken = 10

abbrev pub number : Refusal → ℕ
number Time = 20
number Malformed = 21
number NotListed = 22
number Halted = 23
number OutsideLimits = 24
number OptionStopped = 25
number OffEdge = 26
number UnderlyingNotListed = 29

-- An answer, its refusal read as a number.
abbrev pub numbered : {T : Type 0} → Result T Refusal → Result T ℕ
numbered (Ok x) = Ok x
numbered (Err e) = Err (number e)
