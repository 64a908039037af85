use Rattle.std.proofs.Common.{◌≡◌, arith, rules}
use Rattle.limits.specs.Around.{not_above}
use Rattle.limits.proofs.Nearest.{largest}
use Rattle.limits.proofs.rule.rounded.Goals as goal

pub returns-clause-largest : goal.returns-clause-largest
returns-clause-largest g c =
    let unit = (g.R.LimitRule.means c.args.rule.now).unit in
    let low = (g.met.R.LimitRule.lawful c.args.rule.now).unit_low in
    let is : c.multiple_below.result ≡ not_above unit c.args.price = search rules in
    rw is (largest unit (omega (arith, low)) c.args.price)
