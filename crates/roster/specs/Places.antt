-- Entries in order: how many there may be, where one stands, and the entries without it.
use Rattle.std.specs.Prelude.{ℕ, Bool, List, is_some, Some, None, Option}
use Rattle.std.specs.List.{find, position_from, remove}

-- a roster uses no more places than these, however many are lent
abbrev pub most_entries : ℕ
most_entries = 4096

-- the place, counted from i, of the first entry that passes
abbrev pub place_from : {L : Type 0} → ℕ → (L → Bool) → List L → Option ℕ
place_from i p xs = position_from p i xs

abbrev pub place : {L : Type 0} → (L → Bool) → List L → Option ℕ
place p xs = place_from 0 p xs

-- the first entry that passes
abbrev pub record_of : {L : Type 0} → (L → Bool) → List L → Option L
record_of p xs = find p xs

-- whether some entry passes
abbrev pub holds : {L : Type 0} → (L → Bool) → List L → Bool
holds p xs = is_some (place p xs)

-- the entries after one that stood at a place, if any did, has gone: the later ones move up
abbrev pub without : {L : Type 0} → Option ℕ → List L → List L
without None xs = xs
without (Some at) xs = remove xs at
