-- The number of every refusal, and the place that it names.
use Rattle.std.specs.Prelude.{ℕ, Some, None, Ok, Err, Option, Result}
use Rattle.tape.specs.declared.fault.Flaw.{Flaw}
use Rattle.tape.specs.declared.fault.Flaw.TheVariants.{Short, Kind, Length, Field, Backward}
use Rattle.tape.specs.declared.fault.RecordFault.{RecordFault}
use Rattle.tape.specs.declared.fault.TapeFault.{TapeFault}
use Rattle.tape.specs.declared.fault.TapeFault.TheVariants.{TooLong, Version, Broken}
use Rattle.tape.specs.declared.fault.WriteFault.{WriteFault}
use Rattle.tape.specs.declared.fault.WriteFault.TheVariants.{Unfit, Full}

abbrev pub flaw_number : Flaw → ℕ
flaw_number Short = 2
flaw_number Kind = 3
flaw_number Length = 4
flaw_number Field = 5
flaw_number Backward = 6

-- a refusal as the caller is told it: a code, or a code with a place in the tape
pub data Refusal : Type 0 where
  refused : ℕ → Refusal
  refused_at : ℕ → ℕ → Refusal

abbrev pub code_of : Refusal → ℕ
code_of (refused k) = k
code_of (refused_at k p) = k

abbrev pub place_of : Refusal → Option ℕ
place_of (refused k) = None
place_of (refused_at k p) = Some p

-- a flaw in the record at the place p
abbrev pub flaw_at : ℕ → Flaw → Refusal
flaw_at p e = refused_at (flaw_number e) p

abbrev pub record_refusal : RecordFault → Refusal
record_refusal f = flaw_at f.place f.flaw

abbrev pub tape_refusal : TapeFault → Refusal
tape_refusal TooLong = refused 7
tape_refusal Version = refused_at 1 0
tape_refusal (Broken f) = record_refusal f

abbrev pub write_refusal : WriteFault → Refusal
write_refusal (Unfit f) = record_refusal f
write_refusal Full = refused 12

-- an answer, its fault read as a refusal
abbrev pub refusing : {T E : Type 0} → (E → Refusal) → Result T E → Result T Refusal
refusing f (Ok x) = Ok x
refusing f (Err e) = Err (f e)
