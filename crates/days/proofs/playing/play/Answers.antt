use Rattle.std.proofs.Common.{refl, ◌∙◌}
use Rattle.limits.specs.Around.{not_above}
use Rattle.days.specs.Asking.{carried}
use Rattle.days.proofs.Steps.{same_answer}
use Rattle.days.proofs.Widening.{run_reads}
use Rattle.days.proofs.playing.play.Goals as goal

pub returns : goal.returns
returns g c =
    let f = g.R.LimitRule.means in
    let r = c.args.rule in
    let o = c.in_ok-day.ensures in
    let e = c.run.ensures in
    let d = c.run.result.day.watches.state in
    let x = carried c.args.next.now in (
      o.0,
      cc,
      cc,
      run_reads (f r) (not_above (f r).unit c.args.price) (g.met.R.LimitRule.lawful r) o.0 c.args.calls.now x d _ _ _
          (cc) e.clock (cc) (e.answer ∙ same_answer f {d = d} x o.1 o.2 refl),
    )
