use Rattle.std.proofs.Common.{◌≡◌, ◌∙◌, arith, rules}
use Rattle.std.proofs.lemmas.Result.{IfOk-weaker}
use Rattle.std.specs.Option.{option_map}
use Rattle.words.specs.PriceText.{price_text, read_price}
use Rattle.words_laws.proofs.RoundTrips.{one_price, prices}
use Rattle.words_laws.proofs.Worked.{examples}
use Rattle.words_laws.proofs.reread_price.Goals as goal

pub returns-clause-same : goal.returns-clause-same
returns-clause-same c =
    IfOk-weaker c.reread.result _ _
    (λ o read.
    let back : option_map (λ p. p.0) o ≡ read_price (price_text c.args.price.0) = search rules in
    one_price o c.args.price (back ∙ prices c.args.price.0 (omega arith)))
    c.reread.ensures

pub returns-clause-law : goal.returns-clause-law
returns-clause-law c = prices

pub returns-clause-examples : goal.returns-clause-examples
returns-clause-examples c = examples
