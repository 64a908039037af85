-- The number of every refusal.
use Rattle.std.specs.Prelude.{ℕ, Ok, Err, Result}
use Rattle.roster.specs.declared.fault.RosterFault.{RosterFault}
use Rattle.roster.specs.declared.fault.RosterFault.TheVariants.{Malformed, NotListed, Full, Listed}

abbrev pub number : RosterFault → ℕ
number Malformed = 21
number NotListed = 22
number Full = 27
number Listed = 28

-- an answer, its fault read as a number
abbrev pub numbered : {T : Type 0} → Result T RosterFault → Result T ℕ
numbered (Ok x) = Ok x
numbered (Err e) = Err (number e)
