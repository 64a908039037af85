-- The loop that sums a part: what a turn of it keeps, and what it ends in.
use Rattle.std.proofs.Common.{◌≡◌, ℕ, ◌+◌, ◌*◌, ◌≤◌, Bool, true, false, cond, List, [], ◌∷◌, length, drop, None, Ok, Err, fold, filter, Option, Result, sym, refl, ap, ◌∙◌, subst, add-mul, mul-le-mul_left, arith}
use Rattle.std.proofs.lemmas.Bool.Decides.{nat_tests}
use Rattle.tape.specs.declared.reader.Placed.{Placed}
use Rattle.tape.specs.Codes.{Refusal}
use Rattle.tape.specs.Format.{Plain, trade, quote, time_of, size_of, good_fields}
use Rattle.tape.specs.Reading.{over, bad, step, told, Outcome, sound, faulty, put}
use Rattle.tape.proofs.Runs.{Sofar, turn, done, failed}
use Rattle.tape.proofs.Steps.{Came}
use Rattle.reference.specs.declared.sums.Sums.{Sums}
use Rattle.reference.specs.declared.sums.Tallies.{Tallies}
use Rattle.reference.specs.Priced.{Kind, Fair, trade_kind, quote_kind}
use Rattle.reference.specs.Sums.{named, added, both, tallied, row_of}
use Rattle.reference.proofs.Adding.{fair_product}

-- what one record does to the sums
abbrev pub tallying : List ℕ → Tallies → Plain → Tallies
tallying s t r = cond (named s r) (both t r) t

abbrev pub none : Tallies
none = record { trades = record { total = 0; weights = 0 }; quotes = record { total = 0; weights = 0 } }

abbrev pub tallied_from : List ℕ → Tallies → Outcome → Result Tallies Refusal
tallied_from s t (sound rs) = Ok (fold (tallying s) t rs)
tallied_from s t (faulty f) = Err f

tally_put : (s : List ℕ) (t : Tallies) (r : Plain) (o : Outcome) → tallied_from s t (put r o) ≡ tallied_from s (tallying s t r) o
tally_put s t r (sound rs) = refl
tally_put s t r (faulty f) = refl

-- the sums of a row, begun at t
abbrev summed : Kind → Sums → List Plain → Sums
summed k s rs = record { total = fold (λ a r. a + k.weight r * k.value r) s.total rs; weights = fold (λ a r. a + k.weight r) s.weights rs }

abbrev summed_both : Tallies → List Plain → Tallies
summed_both t rs = record { trades = summed trade_kind t.trades rs; quotes = summed quote_kind t.quotes rs }

folds_one : (s : List ℕ) (t : Tallies) (x : Bool) (r : Plain) (rs : List Plain) → ((u : Tallies) → fold (tallying s) u rs ≡ summed_both u (filter (named s) rs)) → fold (tallying s) (cond x (both t r) t) rs ≡ summed_both t (cond x (r ∷ filter (named s) rs) (filter (named s) rs))
folds_one s t true r rs ih = ih (both t r)
folds_one s t false r rs ih = ih t

folds : (s : List ℕ) (rs : List Plain) (t : Tallies) → fold (tallying s) t rs ≡ summed_both t (filter (named s) rs)
folds s [] t = refl
folds s (r ∷ rs) t = folds_one s t (named s r) r rs (folds s rs)

pub from_none : (s : List ℕ) (o : Outcome) → tallied_from s none o ≡ tallied s o
from_none s (sound rs) = ap Ok (folds s rs none)
from_none s (faulty f) = refl

-- sums so far, at a place: n is the kind's divisor
pub record Bounded (n at : ℕ) (s : Sums) : Type 0 where
  pub total : s.total ≤ 11000000000000 * at
  pub weights : s.weights ≤ 100000 * at
  pub priced : s.total ≤ s.weights * (20000000 * n)

bounded_later : (n at more : ℕ) (s : Sums) → Bounded n at s → Bounded n (at + more) s
bounded_later n at more s h = record { total = omega (arith, h.total); weights = omega (arith, h.weights); priced = h.priced }

bounded_added : (k : Kind) (at size : ℕ) (s : Sums) (r : Plain) → k.divisor ≤ 8 → 15 ≤ size → Fair k.divisor (k.weight r) (k.value r) → Bounded k.divisor at s → Bounded k.divisor (at + size) (added k s r)
bounded_added k at size s r few big fair h =
    record {
      total = omega (arith, h.total, fair_product k.divisor (k.weight r) (k.value r) fair few);
      weights = omega (arith, h.weights, fair.0);
      priced = omega (arith, h.priced, mul-le-mul_left (k.weight r) fair.1, add-mul s.weights (k.weight r) (20000000 * k.divisor));
    }

trade_fair : (r : Plain) → good_fields r ≡ true → Fair 1 (trade_kind.weight r) (trade_kind.value r)
trade_fair (trade t p v s) h = (grind (arith, nat_tests), grind (arith, nat_tests))
trade_fair (quote t b o s) h = (omega arith, omega arith)

quote_fair : (r : Plain) → good_fields r ≡ true → Fair 2 (quote_kind.weight r) (quote_kind.value r)
quote_fair (trade t p v s) h = (omega arith, omega arith)
quote_fair (quote t b o s) h = (grind (arith, nat_tests), grind (arith, nat_tests))

pub record Tallied (s xs : List ℕ) (t : Tallies) (at last : ℕ) : Type 0 where
  pub short : length xs ≤ 1048576
  pub inside : at ≤ length xs
  pub trades : Bounded 1 at t.trades
  pub quotes : Bounded 2 at t.quotes
  pub sofar : Sofar (tallied_from s) (tallied s (row_of xs)) xs t at last

module _ (s xs : List ℕ) where
  pub tallied_start : (at last : ℕ) → length xs ≤ 1048576 → at ≡ 0 → last ≡ 0 → Tallied s xs none at last
  tallied_start at last short a l =
      record {
        short = short;
        inside = omega (arith, a);
        trades = record { total = omega arith; weights = omega arith; priced = omega arith };
        quotes = record { total = omega arith; weights = omega arith; priced = omega arith };
        sofar =
            subst (λ x. Sofar (tallied_from s) (tallied s (row_of xs)) xs none x last) (sym a)
            (subst (λ x. Sofar (tallied_from s) (tallied s (row_of xs)) xs none 0 x) (sym l) (record { fuel = length xs; enough = omega arith; gives = from_none s (row_of xs) }));
      }

  module _ (t : Tallies) (at last : ℕ) (h : Tallied s xs t at last) where
    moved : (u : Tallies) (next after q : ℕ) (r : Plain) → Came xs at last next after q r → u ≡ tallying s t r → Bounded 1 (at + size_of r) u.trades → Bounded 2 (at + size_of r) u.quotes → Tallied s xs u next after
    moved u next after q r k is bt bq =
        record {
          short = h.short;
          inside = omega (arith, k.moved, k.fits);
          trades = subst (λ x. Bounded 1 x u.trades) (sym k.moved) bt;
          quotes = subst (λ x. Bounded 2 x u.quotes) (sym k.moved) bq;
          sofar =
              subst (λ x. Sofar (tallied_from s) (tallied s (row_of xs)) xs u x after) (sym k.moved)
              (subst (λ x. Sofar (tallied_from s) (tallied s (row_of xs)) xs u (at + size_of r) x) (sym k.timed)
              (subst (λ u. Sofar (tallied_from s) (tallied s (row_of xs)) xs u (at + size_of r) (time_of r)) (sym is)
              (turn (tallied_from s) (tallied s (row_of xs)) xs t (tallying s t r) at last q r (tally_put s t r) h.sofar k.is)));
        }

    pub tallied_pass : (next after q : ℕ) (r : Plain) → Came xs at last next after q r → named s r ≡ false → Tallied s xs t next after
    tallied_pass next after q r k skip =
        moved t next after q r k (ap (λ x. cond x (both t r) t) (sym skip)) (bounded_later 1 at (size_of r) t.trades h.trades) (bounded_later 2 at (size_of r) t.quotes h.quotes)

    pub tallied_take : (u : Tallies) (next after q : ℕ) (r : Plain) → Came xs at last next after q r → named s r ≡ true → u ≡ both t r → Tallied s xs u next after
    tallied_take u next after q r k pick is =
        moved u next after q r k (is ∙ ap (λ x. cond x (both t r) t) (sym pick))
        (subst (λ u. Bounded 1 (at + size_of r) u.trades) (sym is) (bounded_added trade_kind at (size_of r) t.trades r (omega arith) (omega arith) (trade_fair r k.fields) h.trades))
        (subst (λ u. Bounded 2 (at + size_of r) u.quotes) (sym is) (bounded_added quote_kind at (size_of r) t.quotes r (omega arith) (omega arith) (quote_fair r k.fields) h.quotes))

    pub tallied_done : (ys : List ℕ) (o : Option Placed) → ys ≡ xs → o ≡ None → told (Ok o) ≡ step (drop at ys) at last → Ok t ≡ tallied s (row_of xs)
    tallied_done ys o same none gives =
        let e : step (drop at xs) at last ≡ over = ap (λ l. step (drop at l) at last) (sym same) ∙ sym gives ∙ ap (λ o. told (Ok o)) none in
        done (tallied_from s) _ xs t at last h.sofar e

    pub tallied_failed : (ys : List ℕ) (f : Refusal) → ys ≡ xs → bad f ≡ step (drop at ys) at last → Err f ≡ tallied s (row_of xs)
    tallied_failed ys f same gives =
        let e : step (drop at xs) at last ≡ bad f = ap (λ l. step (drop at l) at last) (sym same) ∙ sym gives in
        failed (tallied_from s) _ xs t at last f h.sofar e
