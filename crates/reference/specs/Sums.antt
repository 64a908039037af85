-- The sums that the code keeps while it reads a row of records.
use Rattle.std.specs.Prelude.{ℕ, ◌+◌, ◌*◌, ◌≤◌, Bool, List, length, Ok, Err, filter, Result}
use Rattle.std.specs.Str.{bytes_eq}
use Rattle.tape.specs.Codes.{Refusal}
use Rattle.tape.specs.Format.{Plain, symbol_of}
use Rattle.tape.specs.Reading.{Outcome, sound, faulty, walk}
use Rattle.reference.specs.declared.sums.Sums.{Sums}
use Rattle.reference.specs.declared.sums.Tallies.{Tallies}
use Rattle.reference.specs.Priced.{Kind, trade_kind, quote_kind, total_of, weights_of}

abbrev pub named : List ℕ → Plain → Bool
named symbol r = bytes_eq (symbol_of r) symbol

abbrev pub sums_of : Kind → List Plain → Sums
sums_of k rs = record { total = total_of k rs; weights = weights_of k rs }

abbrev pub tallies_of : List Plain → Tallies
tallies_of rs = record { trades = sums_of trade_kind rs; quotes = sums_of quote_kind rs }

-- one more record
abbrev pub added : Kind → Sums → Plain → Sums
added k s r = record { total = s.total + k.weight r * k.value r; weights = s.weights + k.weight r }

abbrev pub both : Tallies → Plain → Tallies
both t r = record { trades = added trade_kind t.trades r; quotes = added quote_kind t.quotes r }

-- the records that stand side by side in some bytes
abbrev pub row_of : List ℕ → Outcome
row_of b = walk (length b) b 0 0

-- the sums of the symbol's records among those read, or the refusal
abbrev pub tallied : List ℕ → Outcome → Result Tallies Refusal
tallied symbol (sound rs) = Ok (tallies_of (filter (named symbol) rs))
tallied symbol (faulty f) = Err f

-- there is room for one more
abbrev pub Roomy : Sums → Type 0
Roomy s = (s.total ≤ 18000000000000000000) × (s.weights ≤ 18000000000000000000)

-- the mean is a price, n being the divisor
abbrev pub MeanFits : ℕ → Sums → Type 0
MeanFits n s = (s.weights ≤ 200000000000) × (s.total ≤ s.weights * (20000000 * n))

abbrev pub MeansFit : Tallies → Type 0
MeansFit t = MeanFits 1 t.trades × MeanFits 2 t.quotes
