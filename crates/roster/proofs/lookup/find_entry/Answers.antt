use Rattle.std.proofs.Common.{rules, tests}
use Rattle.std.proofs.lemmas.Iterator.{YieldsList-from_slice}
use Rattle.std.proofs.lemmas.Iterator.Search.{find_from_yields_List}
use Rattle.roster.proofs.lookup.find_entry.Goals as goal

pub returns : goal.returns
returns g c =
    let found = find_from_yields_List (g.L.Listing.same c.args.wanted.now) _ _ c.find.result c.find.ensures.ran (YieldsList-from_slice c.args.entries.now cc) (λ x b q k. search (rules, tests)) in
    search rules
