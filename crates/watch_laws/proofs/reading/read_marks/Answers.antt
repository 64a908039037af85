use Rattle.std.proofs.Common.{◌≡◌, is_some, ◌+◌, reverse, take, drop, None, sym, ap, ◌∙◌, subst, rules}
use Rattle.watches.specs.declared.state.AcceptedMark.{AcceptedMark}
use Rattle.watches.specs.declared.state.Kind.TheVariants.{Bid}
use Rattle.watches.specs.declared.state.State.{State}
use Rattle.watch_laws.proofs.All.{laws}
use Rattle.watch_laws.proofs.Played.{Sofar, goes_on, breaks_off, done, not_all, read_on}
use Rattle.watch_laws.proofs.reading.read_marks.Goals as goal

abbrev none_yet : AcceptedMark
none_yet = record { time = 0; kind = Bid }

pub loop-mark-preserved : goal.loop-mark-preserved
loop-mark-preserved c =
    let n = c.args.levels in
    let xs = c.args.marks.now in
    let i = c.loop-mark.mark-index in
    let q = sym c.accept.ensures.answer ∙ ap is_some c.in_ok-accept.was in
    subst (λ (d : State). Sofar n d (reverse (take (i + 1) xs)) (drop (i + 1) xs) xs) (sym c.accept.ensures.state)
    (goes_on n c.loop-mark.day.state i xs none_yet c.loop-mark-test.true c.loop-mark.invariant q)

pub returns-in_err-accept-clause-answer : goal.returns-in_err-accept-clause-answer
returns-in_err-accept-clause-answer c =
    let n = c.args.levels in
    let xs = c.args.marks.now in
    let q = sym c.accept.ensures.answer ∙ ap is_some c.in_err-accept.was in
    let none : c.from_residual.result ≡ None = search rules in
    none ∙ sym (not_all n xs c.args.time (breaks_off n c.loop-mark.day.state c.loop-mark.mark-index xs none_yet c.loop-mark-test.true c.loop-mark.invariant q))

pub returns-in_err-accept-clause-laws : goal.returns-in_err-accept-clause-laws
returns-in_err-accept-clause-laws c = laws _

pub returns-clause-answer : goal.returns-clause-answer
returns-clause-answer c =
    let n = c.args.levels in
    let xs = c.args.marks.now in
    let d = c.loop-mark.day.state in
    let all = done n d c.loop-mark.mark-index xs c.loop-mark-test.false c.loop-mark.invariant in
    read_on n d xs c.args.time all c.then.result (c.then.ensures.variant ∙ c.is_timely.ensures) _ (λ s k. search rules) c.then.ensures.some

pub returns-clause-laws : goal.returns-clause-laws
returns-clause-laws c = laws _
