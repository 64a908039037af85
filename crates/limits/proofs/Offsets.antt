-- Offsets of any lawful meaning rise with the level, so that limits only widen.
use Rattle.std.proofs.Common.{◌≡◌, ℕ, ◌≤◌, true, arith}
use Rattle.std.proofs.lemmas.Bool.Decides.{nat_tests}
use Rattle.limits.specs.Meaning.{Meaning, Lawful}
use Rattle.limits.specs.Around.{distance}
use Rattle.limits.specs.Laws.{Widens}

module _ (m : Meaning) (law : Lawful m) (p : ℕ) (taken : m.takes p ≡ true) where
  distance_mono : (k l : ℕ) → k ≤ l → l ≤ m.levels → distance m k p ≤ distance m l p
  distance_mono k l a b =
      let at = law.at p taken in
      grind (arith, nat_tests, at.rises)

  pub widens : (tick : ℕ) → Widens m tick p
  widens tick a b c d q h i j k inside =
      let low = distance_mono a c h j in
      let high = distance_mono b d i k in
      grind (arith, nat_tests)
