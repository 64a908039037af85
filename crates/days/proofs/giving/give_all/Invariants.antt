use Rattle.std.proofs.Common.{◌≡◌, take}
use Rattle.days.specs.Giving.{played}
use Rattle.days.proofs.giving.give_all.Given as goal

abbrev pub invariant-loop-call : goal.invariant-loop-call
invariant-loop-call g l =
    let e = l.initial.day in
    (l.day.terms ≡ e.terms)
    × (l.day.watches.state ≡ played (g.R.LimitRule.means e.terms.rule) e.terms.price e.watches.state (take l.call-index l.calls))
