use Rattle.std.proofs.Common.{rules, ◌≡◌, Err, Ok, ap, ◌∙◌}
use Rattle.std.proofs.lemmas.Result.{err_from_is_err_and, MatchResult-at_ok}
use Rattle.days.proofs.Readings.{due_same, view_due_same}
use Rattle.promise.specs.Parts.{given_by, part_of, opens_at}
use Rattle.promise.proofs.References.{referred}
use Rattle.promise.proofs.Runs.{runs}
use Rattle.promise.proofs.run.run_day.Goals as goal

pub returns-in_err-reference-clause-refers : goal.returns-in_err-reference-clause-refers
returns-in_err-reference-clause-refers g c =
    let p = err_from_is_err_and c.from_residual.result c.from_residual.ensures.1 in
    rw (p.1, p.2) (referred c.args.request.now c.args.plan.now.tape.now (Err c.in_err-reference.field-0.0) c.in_err-reference.ensures.means)

pub returns-clause-part : goal.returns-clause-part
returns-clause-part g c =
    let m = g.R.LimitRule.means c.args.rule in
    let d = given_by c.args.plan.now in
    let r = c.in_ok-reference.reference in
    let p = opens_at m r in
    let is : c.play.result ≡ Ok c.in_ok-played.played = search rules in
    let o = MatchResult-at_ok _ _ _ is c.play.ensures in
    let reads = o.3 in
    runs m d.calls d.next r _ _ _ _ o.0 (c.price.ensures ∙ o.2) reads.clock_due (reads.view ∙ view_due_same m p d.calls) (reads.answer ∙ due_same m p d.calls d.next)
    ∙ ap (λ R. part_of m R d.calls d.next) c.in_ok-reference.ensures.gives
