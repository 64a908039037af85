use Rattle.std.proofs.Common.{◌≡◌, ◌+◌, ◌-◌, arith, rules}
use Rattle.limits.specs.Around.{not_above, not_below}
use Rattle.limits.proofs.Nearest.{largest, smallest}
use Rattle.limits.proofs.Offsets.{widens}
use Rattle.limits.proofs.bounds.Bounds.around.Goals as goal

pub returns-clause-edges : goal.returns-clause-edges
returns-clause-edges g c taken some =
    let tick = c.args.tick in
    let low = c.args.price - c.distance_to.result in
    let high = c.args.price + c.distance_to-2.result in
    let lower : c.multiple_above-lower_edge.result ≡ not_below tick low = search rules in
    let upper : c.multiple_below-upper_edge.result ≡ not_above tick high = search rules in
    let at = (g.met.R.LimitRule.lawful c.args.rule.now).at c.args.price taken in
    let highest = at.high in
    record {
      upper = rw upper (largest tick some high);
      lower = rw lower (smallest tick some low (omega arith) (omega arith));
    }

pub returns-clause-widens : goal.returns-clause-widens
returns-clause-widens g c taken = widens (g.R.LimitRule.means c.args.rule.now) (g.met.R.LimitRule.lawful c.args.rule.now) c.args.price taken c.args.tick
