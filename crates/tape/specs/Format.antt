-- The tape's format: a record, the limits of its fields, its bytes, and the bytes of a whole tape.
use Rattle.std.specs.Prelude.{ℕ, ◌+◌, ◌/◌, ◌%◌, Bool, false, cond, List, [], ◌∷◌, ◌++◌, length, Ok, Err, Result, ◌==◌, nat_le}
use Rattle.std.specs.List.{flat_map}
use Rattle.tape.specs.declared.record.Record.{Record}
use Rattle.tape.specs.declared.fault.Flaw.{Flaw}
use Rattle.tape.specs.declared.fault.Flaw.TheVariants.{Kind}
use Rattle.tape.specs.declared.record.Fields.{Fields}
use Rattle.tape.specs.declared.record.RecordKind.{RecordKind}
use Rattle.tape.specs.declared.record.RecordKind.TheVariants.{Trade, Quote}
use Rattle.tape.specs.declared.record.Record.TheVariants.{Trade as TradeRecord, Quote as QuoteRecord}

-- the number of a kind, and the kind of a number
abbrev pub kind_number : RecordKind → ℕ
kind_number Trade = 1
kind_number Quote = 2

abbrev pub kind_numbered : ℕ → Result RecordKind Flaw
kind_numbered k = cond (k == 1) (Ok Trade) (cond (k == 2) (Ok Quote) (Err Kind))

-- a record free of references: time, two numbers and the symbol's bytes
pub data Plain : Type 0 where
  trade : ℕ → ℕ → ℕ → List ℕ → Plain
  quote : ℕ → ℕ → ℕ → List ℕ → Plain

-- the value of a record whose symbol is borrowed
abbrev pub plain : Record → Plain
plain (TradeRecord t p v s) = trade t p v s.now
plain (QuoteRecord t b o s) = quote t b o s.now

-- what the fields of a record stand for
abbrev pub as_kind : RecordKind → ℕ → ℕ → ℕ → List ℕ → Plain
as_kind Trade t a b s = trade t a b s
as_kind Quote t a b s = quote t a b s

abbrev pub meant : Fields → Plain
meant f = as_kind f.kind f.time f.first f.second f.symbol.now

abbrev pub kind_of : Plain → ℕ
kind_of (trade t p v s) = 1
kind_of (quote t b o s) = 2

abbrev pub time_of : Plain → ℕ
time_of (trade t p v s) = t
time_of (quote t b o s) = t

abbrev pub symbol_of : Plain → List ℕ
symbol_of (trade t p v s) = s
symbol_of (quote t b o s) = s

-- how many bytes a record takes, its length's two among them
abbrev pub size_of : Plain → ℕ
size_of r = 15 + length (symbol_of r)

abbrev pub within : ℕ → ℕ → ℕ → Bool
within low high n = cond (nat_le low n) (nat_le n high) false

abbrev pub is_time : ℕ → Bool
is_time t = nat_le t 86399999

abbrev pub is_price : ℕ → Bool
is_price p = within 1 20000000 p

abbrev pub is_volume : ℕ → Bool
is_volume v = within 1 1000000 v

abbrev pub good_fields : Plain → Bool
good_fields (trade t p v s) = cond (is_time t) (cond (is_price p) (is_volume v) false) false
good_fields (quote t b o s) = cond (is_time t) (cond (is_price b) (cond (is_price o) (nat_le b o) false) false) false

abbrev pub good_symbol : Plain → Bool
good_symbol r = within 1 12 (length (symbol_of r))

-- big-endian numbers
abbrev pub bytes2 : ℕ → List ℕ
bytes2 n = (n / 256 % 256) ∷ (n % 256) ∷ []

abbrev pub bytes4 : ℕ → List ℕ
bytes4 n = (n / 16777216 % 256) ∷ (n / 65536 % 256) ∷ (n / 256 % 256) ∷ (n % 256) ∷ []

-- a record's bytes before its symbol of n bytes: length, kind, time, two numbers
abbrev pub header : ℕ → ℕ → ℕ → ℕ → ℕ → List ℕ
header n k t a b = bytes2 (13 + n) ++ (k ∷ bytes4 t) ++ bytes4 a ++ bytes4 b

abbrev pub head : Plain → List ℕ
head (trade t p v s) = header (length s) 1 t p v
head (quote t b o s) = header (length s) 2 t b o

unfoldable pub encode : Plain → List ℕ
encode r = head r ++ symbol_of r

-- a tape: the version byte, then the records' bytes
abbrev pub tape_of : List Plain → List ℕ
tape_of rs = 1 ∷ flat_map encode rs
