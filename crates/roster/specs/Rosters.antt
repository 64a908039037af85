-- What a roster holds.
use Rattle.std.specs.Prelude.{◌≡◌, ℕ, min, List, length, take, drop}
use Rattle.roster.specs.Places.{most_entries}
use Rattle.roster.specs.declared.held.Roster.{Roster}

-- the entries, in the order of entering
abbrev pub entries_of : {L : Type 0} → Roster L → List L
entries_of r = take r.len r.places.now

-- what the places hold from the n-th on
abbrev pub places_from : {L : Type 0} → ℕ → Roster L → List L
places_from n r = drop n r.places.now

-- how many entries n places have room for
abbrev pub room_in : ℕ → ℕ
room_in n = min most_entries n

abbrev pub room_of : {L : Type 0} → Roster L → ℕ
room_of r = room_in (length r.places.now)

-- what a change of a roster leaves: as many places, lent by the same lender, and those behind the entries as they were
pub record KeepsPlaces {L : Type 0} (before after : Roster L) : Type 0 where
  pub behind : places_from after.len after ≡ places_from after.len before
  pub lent : length after.places.now ≡ length before.places.now
  pub lender : after.places.ghost_name ≡ before.places.ghost_name
