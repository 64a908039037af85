use Rattle.std.proofs.Common.{drop, sym, ap, ◌∙◌, arith, length-drop}
use Rattle.std.proofs.lemmas.List.{take_rest}
use Rattle.std.proofs.lemmas.Result.{IfOk-at_ok}
use Rattle.tape.specs.Reading.{front}
use Rattle.tape.proofs.Fronts.{Lies, front_lies}
use Rattle.tape.proofs.reader.Reader.front_record.Goals as goal

pub returns-clause-within : goal.returns-clause-within
returns-clause-within c =
    let xs = c.args.self.now.tape.now in
    let at = c.args.self.now.at in
    let rest = drop at xs in
    let is = c.in_ok-record.ensures ∙ ap front (take_rest xs at) in
    let lies = IfOk-at_ok (Lies rest) (sym is) (front_lies rest) in
    omega (arith, lies.0, length-drop at xs)
