-- A sound tape, and what each verdict on a tape says of its bytes.
use Rattle.std.specs.Prelude.{◌≡◌, ℕ, ◌<◌, ◌≤◌, true, cond, List, [], ◌∷◌, ◌++◌, length, Some, None, Ok, Err, Option, Result, ◌≢◌, nat_le, slice_index}
use Rattle.tape.specs.declared.fault.TapeFault.{TapeFault}
use Rattle.tape.specs.declared.fault.TapeFault.TheVariants.{TooLong, Version, Broken}
use Rattle.tape.specs.Codes.{flaw_number}
use Rattle.tape.specs.Format.{Plain, time_of, good_symbol, good_fields, tape_of}
use Rattle.tape.specs.Reading.{front}

-- each record is within its limits, and none is earlier than the one before it
abbrev pub InOrder : ℕ → List Plain → Type 0
InOrder last [] = Unit {0}
InOrder last (r ∷ rs) = (good_symbol r ≡ true) × (good_fields r ≡ true) × (last ≤ time_of r) × InOrder (time_of r) rs

-- b is a sound tape that holds the records rs
pub record Sound (b : List ℕ) (rs : List Plain) : Type 0 where
  pub bytes : b ≡ tape_of rs
  pub inorder : InOrder 0 rs
  pub short : length b ≤ 1048576

-- the time of the last record, or `last` where there is none
abbrev pub latest : ℕ → List Plain → ℕ
latest last [] = last
latest last (r ∷ rs) = latest (time_of r) rs

-- the code of the first flaw in the record that some bytes begin with, after a record of time `last`
abbrev pub lateness : ℕ → Result Plain ℕ → Option ℕ
lateness last (Ok r) = cond (nat_le last (time_of r)) None (Some 6)
lateness last (Err k) = Some k

abbrev pub flaw_of : ℕ → List ℕ → Option ℕ
flaw_of last b = lateness last (front b)

-- b begins with sound records, and behind them, at the place p, stands a record with the flaw k
pub record Breaks (b : List ℕ) (p k : ℕ) : Type 0 where
  pub short : length b ≤ 1048576
  pub before : List Plain
  pub rest : List ℕ
  pub bytes : b ≡ tape_of before ++ rest
  pub inorder : InOrder 0 before
  pub place : p ≡ length (tape_of before)
  pub some : 1 ≤ length rest
  pub flaw : flaw_of (latest 0 before) rest ≡ Some k

pub record Counts (b : List ℕ) (n : ℕ) : Type 0 where
  pub records : List Plain
  pub sound : Sound b records
  pub many : n ≡ length records

-- what a verdict says of the bytes
abbrev pub Verdict : List ℕ → Result ℕ TapeFault → Type 0
Verdict b (Ok n) = Counts b n
Verdict b (Err TooLong) = 1048576 < length b
Verdict b (Err Version) = (length b ≤ 1048576) × (slice_index b 0 ≢ 1)
Verdict b (Err (Broken f)) = Breaks b f.place (flaw_number f.flaw)
