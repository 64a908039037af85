use Rattle.std.proofs.Common.{◌≤◌, length, ap, ◌∙◌, arith, rules}
use Rattle.std.proofs.lemmas.List.{length-take-le, take_all}
use Rattle.roster.specs.Rosters.{room_in, room_of}
use Rattle.roster_laws.specs.Laws.{Equivalence}
use Rattle.roster_laws.proofs.Applies.{applied}
use Rattle.roster_laws.proofs.Steps.{one_more, drop_later}
use Rattle.roster_laws.proofs.changes.apply_changes.Goals as goal

pub loop-change-preserved : goal.loop-change-preserved
loop-change-preserved g c =
    let inv = c.loop-change.invariant in
    let kept = c.make_change.ensures.places in
    let roster = c.make_change.new.roster in
    let room = room_in (length c.args.places.now) in
    record {
      entries = one_more g.L.Listing.sound g.L.Listing.same room (room_of c.loop-change.roster) c.args.changes.now c.loop-change.change-index c.change-item.result _ _ (ap room_in inv.lent) (omega arith) (search rules) inv.entries (search rules);
      beyond = drop_later roster.places.now c.loop-change.roster.places.now roster.len room (omega (arith, roster.within, roster.few, kept.lent, inv.lent)) kept.behind ∙ inv.beyond;
      lent = kept.lent ∙ inv.lent;
      lender = kept.lender ∙ inv.lender;
    }

pub returns : goal.returns
returns g c =
    let inv = c.loop-change.invariant in
    let roster = c.loop-change.roster in
    let met = g.met.L.Listing in
    let eq : Equivalence g.L.Listing.same = record { reflexive = met.reflexive; symmetric = met.symmetric; transitive = met.transitive } in
    let done : length c.args.changes.now ≤ c.loop-change.change-index = omega arith in
    let all = take_all c.loop-change.change-index c.args.changes.now done in
    let counted = length-take-le roster.len roster.places.now roster.within in
    applied g.L.Listing.sound g.L.Listing.same eq (room_in (length c.args.places.now)) c.args.places.now _ roster.places.now c.args.changes.now roster.len _ (search rules) (cc) (search rules) (omega (arith, inv.lent, roster.few, roster.within)) roster.within inv.beyond
