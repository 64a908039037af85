-- The edges that the code finds in one pass over a tape.
use Rattle.std.specs.Prelude.{◌≡◌, ℕ, zero, suc, ◌+◌, ◌-◌, ◌*◌, ◌/◌, ◌≤◌, min, cond, List, length, Ok, Err, Result, nat_le, slice_index}
use Rattle.tape.specs.declared.fault.TapeFault.{TapeFault}
use Rattle.tape.specs.Codes.{tape_refusal}
use Rattle.tape.specs.Format.{Plain}
use Rattle.tape.specs.Reading.{sound, faulty, parse}
use Rattle.tape.specs.Sound.{Sound}
use Rattle.reference.specs.declared.window.Edges.{Edges}
use Rattle.reference.specs.Windows.{edge}

-- the first window that has the time t; 0 from the close on
abbrev pub window_of : ℕ → ℕ → ℕ
window_of close t = cond (nat_le close t) 0 (1 + (close - 1 - t) / 30000)

-- the lowest of the places up to the w-th
abbrev pub lowest : List ℕ → ℕ → ℕ
lowest ps zero = slice_index ps 0
lowest ps (suc w) = min (lowest ps w) (slice_index ps (suc w))

-- these are the edges of the sound tape b
pub record Edged (b : List ℕ) (e : Edges) : Type 0 where
  pub records : List Plain
  pub parsed : parse b ≡ sound records
  pub whole : Sound b records
  pub many : length e.places ≡ 21
  pub edges : (w : ℕ) → w ≤ 20 → lowest e.places w ≡ edge (e.close - 30000 * w) records

abbrev pub Finds : List ℕ → ℕ → Result Edges TapeFault → Type 0
Finds b close (Ok e) = (e.close ≡ close) × Edged b e
Finds b close (Err f) = parse b ≡ faulty (tape_refusal f)
