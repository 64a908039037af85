use Rattle.std.proofs.Common.{◌∙◌, arith}
use Rattle.std.proofs.lemmas.Bool.Decides.{not_from_Decides}
use Rattle.std.proofs.lemmas.Str.Pattern.{starts_char}
use Rattle.words.proofs.Numerals.{reads}
use Rattle.words.proofs.numbers.read_numeral.Goals as goal

pub returns : goal.returns
returns c =
    let begins = starts_char 43 c.args.word.now _ c.starts_with.ensures.cases (omega arith) (omega arith) in
    c.ok.ensures.value ∙ reads 64 c.args.word.now c.parse.result c.parse.ensures.value.0 (not_from_Decides _ begins c.if-starts_with.false)
