use Rattle.std.proofs.Common.{◌≡◌, ℕ, Option, ◌∙◌, arith, rules}
use Rattle.std.proofs.lemmas.Result.{IfOk-weaker}
use Rattle.std.specs.Option.{option_map}
use Rattle.words.specs.RefusalText.{refusal_text, read_refusal}
use Rattle.words_laws.proofs.RoundTrips.{one_refusal, refusals}
use Rattle.words_laws.proofs.reread_refusal.Goals as goal

pub returns-clause-same : goal.returns-clause-same
returns-clause-same c =
    IfOk-weaker c.reread.result _ _
    (λ o read.
    let back : option_map {U = ℕ × Option ℕ} (λ x. (x.code, x.place)) o ≡ read_refusal (refusal_text c.args.refusal.code c.args.refusal.place) = search rules in
    one_refusal o c.args.refusal (back ∙ refusals c.args.refusal.code c.args.refusal.place (omega arith) (search rules)))
    c.reread.ensures

pub returns-clause-law : goal.returns-clause-law
returns-clause-law c = refusals
