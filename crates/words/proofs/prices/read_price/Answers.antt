use Rattle.std.proofs.Common.{◌∙◌, sym, arith}
use Rattle.std.proofs.lemmas.Grind.{common_steps}
use Rattle.words.proofs.PriceParts.{pointed, unpointed}
use Rattle.words.proofs.prices.read_price.Goals as goal

pub returns-in_err-read_decimals-in-Some : goal.returns-in_err-read_decimals-in-Some
returns-in_err-read_decimals-in-Some c =
    rw (pointed c.args.word.now (c.in-Some.points, c.in-Some.decimals) c.in-Some.ensures.cases) (grind (arith, common_steps))

pub returns-in_ok-read_decimals-in-Some : goal.returns-in_ok-read_decimals-in-Some
returns-in_ok-read_decimals-in-Some c =
    rw (pointed c.args.word.now (c.in-Some.points, c.in-Some.decimals) c.in-Some.ensures.cases) (grind (arith, common_steps))

pub returns-in-None : goal.returns-in-None
returns-in-None c = c.price_of-in-None.ensures ∙ sym (unpointed c.args.word.now c.in-None.ensures.cases)
