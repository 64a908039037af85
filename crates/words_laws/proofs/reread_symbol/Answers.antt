use Rattle.std.proofs.Common.{◌≡◌, ◌∙◌, vec_items, rules}
use Rattle.std.proofs.lemmas.Result.{IfOk-weaker}
use Rattle.std.specs.Option.{option_map}
use Rattle.words.specs.SymbolText.{symbol_text, read_symbol}
use Rattle.words_laws.proofs.RoundTrips.{all_bytes, symbols}
use Rattle.words_laws.proofs.reread_symbol.Goals as goal

pub returns-clause-same : goal.returns-clause-same
returns-clause-same c =
    IfOk-weaker c.reread.result _ _
    (λ o read.
    let back : option_map vec_items o ≡ read_symbol (symbol_text c.args.symbol.now) = search rules in
    back ∙ symbols c.args.symbol.now (all_bytes c.args.symbol.now (λ i. (c.type_inv.symbol i).fits)))
    c.reread.ensures

pub returns-clause-law : goal.returns-clause-law
returns-clause-law c = symbols
