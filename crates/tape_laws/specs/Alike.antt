-- Two tapes that hold the same records of a symbol in a window, each equally often.
use Rattle.std.specs.Prelude.{◌≡◌, ℕ, Bool, true, false, ◌&&◌, List, count_by, ◌==◌}
use Rattle.std.specs.Str.{bytes_eq}
use Rattle.tape.specs.Format.{Plain, trade, quote}
use Rattle.reference.specs.declared.finding.Request.{Request}
use Rattle.reference.specs.Finding.{asked}
use Rattle.reference.specs.Priced.{Kind, total_of, weights_of}

abbrev pub same_fields : ℕ → ℕ → ℕ → List ℕ → ℕ → ℕ → ℕ → List ℕ → Bool
same_fields t a b s u c d z = t == u && (a == c && (b == d && bytes_eq s z))

abbrev pub same_record : Plain → Plain → Bool
same_record (trade t p v s) (trade u q w z) = same_fields t p v s u q w z
same_record (trade t p v s) (quote u b o z) = false
same_record (quote t b o s) (trade u q w z) = false
same_record (quote t b o s) (quote u c p z) = same_fields t b o s u c p z

-- how often a record stands in a row
abbrev pub often : Plain → List Plain → ℕ
often r rs = count_by (same_record r) rs

-- each record stands equally often in both rows
abbrev pub Alike : List Plain → List Plain → Type 0
Alike rs qs = (r : Plain) → often r rs ≡ often r qs

-- each record of the request's symbol in its widest window stands equally often on both tapes
abbrev pub SameRecords : Request → List Plain → List Plain → Type 0
SameRecords q rs qs = (r : Plain) → asked q.symbol.now q.close q.windows r ≡ true → often r rs ≡ often r qs

-- the sums of a row depend on how often each record stands in it, and not on their order
abbrev pub AnyOrder : Type 0
AnyOrder = (k : Kind) (rs qs : List Plain) → Alike rs qs → (total_of k rs ≡ total_of k qs) × (weights_of k rs ≡ weights_of k qs)
