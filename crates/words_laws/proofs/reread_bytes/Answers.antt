use Rattle.std.proofs.Common.{◌≡◌, ◌∙◌, vec_items, rules}
use Rattle.std.proofs.lemmas.Result.{IfOk-weaker}
use Rattle.std.specs.Option.{option_map}
use Rattle.words.specs.HexText.{bytes_text, read_bytes}
use Rattle.words_laws.proofs.RoundTrips.{all_bytes, bytes}
use Rattle.words_laws.proofs.reread_bytes.Goals as goal

pub returns-clause-same : goal.returns-clause-same
returns-clause-same c =
    IfOk-weaker c.reread.result _ _
    (λ o read.
    let back : option_map vec_items o ≡ read_bytes (bytes_text c.args.bytes.now) = search rules in
    back ∙ bytes c.args.bytes.now (all_bytes c.args.bytes.now (λ i. (c.type_inv.bytes i).fits)))
    c.reread.ensures

pub returns-clause-law : goal.returns-clause-law
returns-clause-law c = bytes
