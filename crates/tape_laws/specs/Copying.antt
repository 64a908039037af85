-- A tape copied record by record: the answer, and the bytes that the records are written back to.
use Rattle.std.specs.Prelude.{◌≡◌, ℕ, ◌≤◌, cond, List, length, Ok, Err, Result, nat_le}
use Rattle.tape.specs.Codes.{Refusal, refused, tape_refusal, write_refusal}
use Rattle.tape.specs.Format.{Plain, tape_of}
use Rattle.tape.specs.Reading.{Outcome, sound, faulty, parse}
use Rattle.tape_laws.specs.declared.copy.CopyFault.{CopyFault}
use Rattle.tape_laws.specs.declared.copy.CopyFault.TheVariants.{Tape, Write}
use Rattle.tape_laws.specs.Keeping.{kept}

abbrev pub copy_refusal : CopyFault → Refusal
copy_refusal (Tape e) = tape_refusal e
copy_refusal (Write e) = write_refusal e

-- the tape's own refusal first, then whether it fits
abbrev pub copied : ℕ → ℕ → Outcome → Result ℕ Refusal
copied long room (sound rs) = cond (nat_le long room) (Ok long) (Err (refused 12))
copied long room (faulty f) = Err f

-- a writer keeps every record of a sound tape and writes them back to its bytes
abbrev pub WritesBack : List ℕ → ℕ → Type 0
WritesBack b room = (rs : List Plain) → parse b ≡ sound rs → length b ≤ room → (kept room 1 0 rs ≡ rs) × (tape_of rs ≡ b)
