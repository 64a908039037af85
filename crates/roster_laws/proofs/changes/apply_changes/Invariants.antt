use Rattle.std.proofs.Common.{◌≡◌, length, take, drop}
use Rattle.roster.specs.Rosters.{entries_of, places_from, room_in}
use Rattle.roster_laws.specs.Changing.{standing}
use Rattle.roster_laws.proofs.changes.apply_changes.Given as goal

abbrev pub invariant-loop-change : goal.invariant-loop-change
invariant-loop-change g l =
    let room = room_in (length l.fn.places) in
    record {
      entries : entries_of l.roster ≡ standing g.L.Listing.sound g.L.Listing.same room (take l.change-index l.changes);
      beyond : places_from room l.roster ≡ drop room l.fn.places;
      lent : length l.roster.places.now ≡ length l.fn.places;
      lender : l.roster.places.ghost_name ≡ l.initial.roster.places.ghost_name;
    }
