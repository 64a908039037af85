-- What an opened day keeps.
use Rattle.std.proofs.Common.{◌≡◌, ℕ, ◌+◌, ◌-◌, ◌<◌, ◌≤◌, true, leb, List, ◌++◌, sym, refl, ap, subst, arith}
use Rattle.std.proofs.lemmas.Bool.{and_parts, leb-true}
use Rattle.std.proofs.lemmas.Bool.Decides.{nat_tests}
use Rattle.limits.specs.Meaning.{Meaning, Lawful, points}
use Rattle.limits.specs.Around.{distance}
use Rattle.limits.specs.Laws.{Edges}
use Rattle.limits.proofs.Nearest.{largest, smallest}
use Rattle.watches.specs.declared.state.Side.{Side}
use Rattle.watches.specs.declared.state.Side.TheVariants.{Upper, Lower}
use Rattle.watches.specs.Reading.{level}
use Rattle.watch_laws.proofs.All.{laws}
use Rattle.day.specs.declared.view.View.{View}
use Rattle.days.specs.Asking.{CallData}
use Rattle.days.specs.Telling.{Told}
use Rattle.days.specs.Past.{clock, accepted}
use Rattle.days.specs.Due.{inside, shown_due, told_due}
use Rattle.days.proofs.Widening.{widened}
use Rattle.promise.specs.Promise.{Keeps}
use Rattle.promise.proofs.Admitting.{admits_future, admits_option}

module _ (m : Meaning) (law : Lawful m) (p : ℕ) (taken : m.takes p ≡ true) where
  -- at a level of the rule the distance is the rule's offset
  distance_is : (l : ℕ) → 1 ≤ l → l ≤ m.levels → distance m l p ≡ m.offset l p
  distance_is l a b = grind (arith, nat_tests, taken)

  module _ (cs : List CallData) where
    abbrev side_level : Side → ℕ
    side_level side = level m.levels side (accepted m p cs) (clock m p cs)

    away : (side : Side) → distance m (side_level side) p ≡ m.offset (side_level side) p
    away side =
        let l = (laws m.levels).levels side (accepted m p cs) (clock m p cs) in
        distance_is (side_level side) l.low (l.high law.some)

    below : p - distance m (side_level Lower) p + m.offset (side_level Lower) p ≡ p
    below =
        let at = law.at p taken in
        let l = (laws m.levels).levels Lower (accepted m p cs) (clock m p cs) in
        let under : m.offset (side_level Lower) p < p = grind (arith, at.rises, l.high law.some) in
        omega (arith, away Lower)

    edges_due : Edges (points 5) (shown_due m p cs).bounds
    edges_due =
        let high = (law.at p taken).high in
        record {
          upper = largest (points 5) (omega arith) _;
          lower = smallest (points 5) (omega arith) _ (omega arith) (omega arith);
        }

    stays_within : (newer older : List CallData) → cs ≡ newer ++ older → (t q : ℕ) → t ≤ clock m p cs → inside m p (accepted m p older) t q ≡ true
        → ((shown_due m p cs).bounds.lower ≤ q) × (q ≤ (shown_due m p cs).bounds.upper)
    stays_within newer older is t q e i =
        let b = (shown_due m p cs).bounds in
        let h = and_parts (leb b.lower q) (leb q b.upper) (widened m p law taken cs newer older is t q e i) in
        (leb-true b.lower q h.0, leb-true q b.upper h.1)

    keeps_due : (c : CallData) → Keeps m p cs c (clock m p cs) (shown_due m p cs) (told_due m p cs c)
    keeps_due c = record {
      takes = taken;
      clock_due = refl;
      view = refl;
      answer = refl;
      lower_level = refl;
      upper_level = refl;
      lower_limit = below;
      upper_limit = ap (λ d. p + d) (away Upper);
      edges = edges_due;
      stays = stays_within;
      admits_futures = admits_future m p (accepted m p cs) (clock m p cs) c;
      admits_options = admits_option m p (accepted m p cs) (clock m p cs) c;
    }

    pub keeps : (c : CallData) (k : ℕ) (v : View) (a : Told) → k ≡ clock m p cs → v ≡ shown_due m p cs → a ≡ told_due m p cs c → Keeps m p cs c k v a
    keeps c k v a is shown told =
        subst (λ (l : ℕ). Keeps m p cs c l v a) (sym is)
        (subst (λ (w : View). Keeps m p cs c (clock m p cs) w a) (sym shown)
        (subst (λ (b : Told). Keeps m p cs c (clock m p cs) (shown_due m p cs) b) (sym told) (keeps_due c)))
