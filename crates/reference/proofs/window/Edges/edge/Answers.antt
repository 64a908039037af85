use Rattle.std.proofs.Common.{rules, arith, ◌∙◌}
use Rattle.reference.proofs.Least.{lowest_is}
use Rattle.reference.proofs.window.Edges.edge.Goals as goal

pub returns : goal.returns
returns c =
    let xs = c.iter.result.rest.now in
    c.unwrap_or.ensures
    ∙ lowest_is c.args.self.now.places xs c.args.windows c.min.result (omega arith) (search rules) (search rules) (search rules)
