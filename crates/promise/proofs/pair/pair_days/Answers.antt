use Rattle.promise.specs.Parts.{given_by, part_told}
use Rattle.promise.proofs.Promised.{promised}
use Rattle.promise.proofs.pair.pair_days.Goals as goal

pub returns : goal.returns
returns g c =
    let one = c.run_day.ensures in
    let two = c.run_day-2.ensures in
    promised (g.R.LimitRule.means c.args.rule) c.args.request.now (g.met.R.LimitRule.lawful c.args.rule)
    (given_by c.args.first.now) (given_by c.args.second.now) (part_told c.run_day.result) (part_told c.run_day-2.result)
    one.part two.part one.refers two.refers
