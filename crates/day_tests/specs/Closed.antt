-- A rule that takes no price: every law about its prices holds, since there are none.
use Rattle.std.specs.Prelude.{false}
use Rattle.limits.specs.Meaning.{Meaning, points}

abbrev pub closed : Meaning
closed = record { unit = points 1; levels = 1; takes = λ p. false; offset = λ level p. points 5 }
