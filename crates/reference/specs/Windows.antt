-- Where a window's records stand on a tape, and the part of the tape that holds them.
use Rattle.std.specs.Prelude.{◌≡◌, ℕ, ◌+◌, ◌-◌, ◌*◌, Bool, cond, ◌&&◌, List, length, take, drop, Ok, Err, sum_by, filter, Result, nat_le, nat_lt}
use Rattle.std.specs.List.{flat_map}
use Rattle.tape.specs.Codes.{Refusal, refused}
use Rattle.tape.specs.Format.{Plain, time_of, size_of, encode}
use Rattle.tape.specs.Reading.{Outcome, sound, faulty, parse}
use Rattle.tape.specs.Sound.{Sound}
use Rattle.reference.specs.declared.fault.ReferenceFault.{ReferenceFault}
use Rattle.reference.specs.declared.window.Part.{Part}
use Rattle.reference.specs.Codes.{reference_refusal}
use Rattle.reference.specs.Sums.{row_of}

-- a close and a number of windows that may be asked for
abbrev pub fit_range : ℕ → ℕ → Bool
fit_range close w = nat_le 30000 close && nat_le close 86400000 && nat_le 1 w && nat_le w 20 && nat_le (30000 * w) close

-- the times from `low` up to but without `high`
abbrev pub within : ℕ → ℕ → Plain → Bool
within low high r = nat_le low (time_of r) && nat_lt (time_of r) high

abbrev pub earlier : ℕ → Plain → Bool
earlier t r = nat_lt (time_of r) t

-- how many bytes some records take
abbrev pub bytes_of : List Plain → ℕ
bytes_of rs = sum_by size_of rs

-- the place behind the version byte and the records before the time t
abbrev pub edge : ℕ → List Plain → ℕ
edge t rs = 1 + bytes_of (filter (earlier t) rs)

pub record Place : Type 0 where
  pub place : ℕ
  pub bytes : List ℕ

-- `long` bytes of b from a place on
abbrev pub part_at : ℕ → ℕ → List ℕ → Place
part_at place long b = record { place = place; bytes = take long (drop place b) }

-- the part begins behind the records before `low`, and is as long as those of the window are
abbrev pub cut_in : ℕ → ℕ → List ℕ → Outcome → Result Place Refusal
cut_in low high b (sound rs) = Ok (part_at (edge low rs) (bytes_of (filter (within low high) rs)) b)
cut_in low high b (faulty f) = Err f

abbrev pub cut : ℕ → ℕ → List ℕ → Result Place Refusal
cut close w b = cond (fit_range close w) (cut_in (close - 30000 * w) close b (parse b)) (Err (refused 8))

abbrev pub parted : Result Part ReferenceFault → Result Place Refusal
parted (Ok x) = Ok (record { place = x.place; bytes = x.bytes.now })
parted (Err e) = Err (reference_refusal e)

-- what a part of the tape b holds: the records from `low` up to but without `high`, all of them and no other
pub record Holds (b : List ℕ) (low high : ℕ) (p : Part) : Type 0 where
  pub records : List Plain
  pub parsed : parse b ≡ sound records
  pub whole : Sound b records
  pub place : p.place ≡ edge low records
  pub long : length p.bytes.now ≡ bytes_of (filter (within low high) records)
  -- an empty part too ends before the first record from `high` on, or at the tape's end
  pub ends : p.place + length p.bytes.now ≡ edge high records
  pub part : p.bytes.now ≡ take (length p.bytes.now) (drop p.place b)
  pub bytes : p.bytes.now ≡ flat_map encode (filter (within low high) records)
  pub reads : row_of p.bytes.now ≡ sound (filter (within low high) records)
