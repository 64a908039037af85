-- What the reference layer answers, as a part of a day.
use Rattle.std.proofs.Common.{◌≡◌, ℕ, ◌≤◌, List, length, Ok, Err, Result, ap, ◌∙◌, subst}
use Rattle.tape.specs.Codes.{refusing}
use Rattle.tape.specs.Format.{Plain}
use Rattle.tape.specs.Reading.{parse, sound}
use Rattle.tape.specs.Sound.{Sound}
use Rattle.tape.proofs.Back.{reads_back}
use Rattle.reference.specs.declared.fault.ReferenceFault.{ReferenceFault}
use Rattle.reference.specs.declared.fault.ReferenceFault.TheVariants as fault
use Rattle.reference.specs.declared.finding.Reference.{Reference}
use Rattle.reference.specs.declared.finding.Request.{Request}
use Rattle.reference.specs.Codes.{reference_refusal}
use Rattle.reference.specs.Finding.{due}
use Rattle.reference.specs.Meaning.{Answers}
use Rattle.tape_laws.proofs.Sames.{same_due}
use Rattle.promise.specs.Parts.{Referred, unfit, unsound, bare}
use Rattle.promise.specs.Same.{SameTapes}

-- an answer of the search, its fault read as a refusal
pub referred : (q : Request) (b : List ℕ) (r : Result Reference ReferenceFault) → Answers q b r → Referred q b (refusing reference_refusal r)
referred q b (Ok x) h = h
referred q b (Err (fault.Tape e)) h = unsound e h.0 h.1
referred q b (Err fault.Request) h = unfit h
referred q b (Err fault.NoMean) h = bare h.0 h.1

-- a sound tape reads as its records
sound_reads : (b : List ℕ) (rs : List Plain) → Sound b rs → parse b ≡ sound rs
sound_reads b rs s = ap parse s.bytes ∙ reads_back rs s.inorder (subst (λ (x : List ℕ). length x ≤ 1048576) s.bytes s.short)

-- the same records, the same reference
pub one_due : (q : Request) (a b : List ℕ) → SameTapes q a b → due q a ≡ due q b
one_due q a b s =
    same_due q a b s.records_a s.records_b (sound_reads a s.records_a s.sound_a) (sound_reads b s.records_b s.sound_b) s.alike
