use Rattle.std.proofs.Common.{sym, ◌∙◌}
use Rattle.tape_laws.proofs.Counts.{any_order}
use Rattle.tape_laws.proofs.Sames.{same_due}
use Rattle.tape_laws.proofs.both.find_both.Goals as goal

pub returns-clause-same : goal.returns-clause-same
returns-clause-same c =
    λ rs qs pa pb alike. c.find_reference.ensures.gives
    ∙ same_due c.args.request.now c.args.first.now c.args.second.now rs qs pa pb alike ∙ sym c.find_reference-2.ensures.gives

pub returns-clause-order : goal.returns-clause-order
returns-clause-order c = any_order
