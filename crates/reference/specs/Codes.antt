-- The number of every refusal: the tape's own, whole, or the reference's.
use Rattle.tape.specs.Codes.{Refusal, refused, tape_refusal}
use Rattle.reference.specs.declared.fault.ReferenceFault.{ReferenceFault}
use Rattle.reference.specs.declared.fault.ReferenceFault.TheVariants.{Tape, Request, NoMean}

abbrev pub reference_refusal : ReferenceFault → Refusal
reference_refusal (Tape e) = tape_refusal e
reference_refusal Request = refused 8
reference_refusal NoMean = refused 9
