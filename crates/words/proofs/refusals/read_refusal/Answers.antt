use Rattle.std.proofs.Common.{arith}
use Rattle.std.proofs.lemmas.Grind.{common_steps}
use Rattle.words.proofs.RefusalParts.{in_parts}
use Rattle.words.proofs.refusals.read_refusal.Goals as goal

pub returns-in_err-read_place-in-Some : goal.returns-in_err-read_place-in-Some
returns-in_err-read_place-in-Some c =
    let front = c.in_ok-rest.ensures.cases in
    let parts = in_parts c.args.text.now _ _ c.split_once.result front.1.1 front.2 c.split_once.ensures.cases in
    grind (arith, common_steps, parts)

pub returns-in_err-code : goal.returns-in_err-code
returns-in_err-code c =
    let front = c.in_ok-rest.ensures.cases in
    let parts = in_parts c.args.text.now _ _ c.split_once.result front.1.1 front.2 c.split_once.ensures.cases in
    grind (arith, common_steps, parts)

pub returns : goal.returns
returns c =
    let front = c.in_ok-rest.ensures.cases in
    let parts = in_parts c.args.text.now _ _ c.split_once.result front.1.1 front.2 c.split_once.ensures.cases in
    grind (arith, common_steps, parts)
