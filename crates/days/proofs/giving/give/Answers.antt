use Rattle.std.proofs.Common.{rules, ◌≡◌, ap, ◌∙◌}
use Rattle.day.specs.Codes.{numbered}
use Rattle.days.specs.Telling.{told, said}
use Rattle.days.proofs.Steps.{said_checks}
use Rattle.days.proofs.giving.give.Goals as goal

pub returns-in-Future-clause-answer : goal.returns-in-Future-clause-answer
returns-in-Future-clause-answer g c =
    let plain : told c.map-in-Future.result ≡ said (numbered c.order_future.result) = search rules in
    plain ∙ ap said c.order_future.ensures.answer ∙ search (rules, said_checks)

pub returns-in-Option-clause-answer : goal.returns-in-Option-clause-answer
returns-in-Option-clause-answer g c =
    let plain : told c.map-in-Option.result ≡ said (numbered c.order_option.result) = search rules in
    plain ∙ ap said c.order_option.ensures.answer ∙ search (rules, said_checks)
