-- Sameness is transitive.
use Rattle.std.specs.Prelude.{◌≡◌, true}
use Rattle.std.proofs.Common.{arith}
use Rattle.std.proofs.lemmas.Bool.Decides.{nat_tests}
use Rattle.listings.specs.Months.{same_code}
use Rattle.listings.specs.Kinds.{same_right, same_series}
use Rattle.listings.specs.declared.code.MonthCode.{MonthCode}
use Rattle.listings.specs.declared.series.OptionSeries.{OptionSeries}
use Rattle.listings.specs.declared.series.Right.{Right}

code_trans : (x y z : MonthCode) → same_code x y ≡ true → same_code y z ≡ true → same_code x z ≡ true
code_trans x y z p q = grind (arith, nat_tests)

right_trans : (x y z : Right) → same_right x y ≡ true → same_right y z ≡ true → same_right x z ≡ true
right_trans x y z p q = grind (arith, nat_tests)

pub series_trans : (x y z : OptionSeries) → same_series x y ≡ true → same_series y z ≡ true → same_series x z ≡ true
series_trans x y z p q = grind (arith, nat_tests)
