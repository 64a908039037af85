-- One step of a reader: at the end there is none, elsewhere the record at the front of what is left.
use Rattle.std.proofs.Common.{◌≡◌, ℕ, ◌+◌, ◌<◌, ◌≤◌, true, eqb, leb, List, length, drop, IfOk, Some, Ok, Err, Option, Result, sym, ap, ◌∙◌, subst, arith, length-drop, eq-eqb, leb-true}
use Rattle.std.proofs.lemmas.Bool.{cond_both, cond-true, cond-false}
use Rattle.std.proofs.lemmas.Bool.Decides.{nat_tests}
use Rattle.tape.specs.declared.reader.Placed.{Placed}
use Rattle.tape.specs.Format.{Plain, plain, time_of, size_of, good_symbol, good_fields}
use Rattle.tape.specs.Reading.{front, timely, Step, over, one, bad, stepped, step, told, place_after, time_after}
use Rattle.tape.proofs.Fronts.{Lies, front_lies}

pub step_none : (b : List ℕ) (p last : ℕ) → length b ≡ 0 → step b p last ≡ over
step_none b p last h = cond-true (eqb (length b) 0) over (stepped p (timely p last (front b))) (eq-eqb (length b) 0 h)

pub step_some : (b : List ℕ) (p last : ℕ) → 0 < length b → step b p last ≡ stepped p (timely p last (front b))
step_some b p last h = cond-false (eqb (length b) 0) over (stepped p (timely p last (front b))) (grind (arith, nat_tests))

abbrev pub AtOne : (Plain → Type 0) → Step → Type 0
AtOne P over = Unit {0}
AtOne P (one q r) = P r
AtOne P (bad e) = Unit {0}

-- a record that comes lies within the bytes, is good, and is not earlier than the one before
abbrev pub Comes : List ℕ → ℕ → Plain → Type 0
Comes b last r = Lies b r × (last ≤ time_of r)

timely_one : (b : List ℕ) (p last : ℕ) (x : Result Plain ℕ) → IfOk x (Lies b) → AtOne (Comes b last) (stepped p (timely p last x))
timely_one b p last (Ok r) h =
    cond_both (leb last (time_of r)) _ _ (λ x. AtOne (Comes b last) (stepped p x)) (λ t. (h, leb-true last (time_of r) t)) (λ _. tt)
timely_one b p last (Err k) h = tt

pub step_comes : (b : List ℕ) (p last : ℕ) → AtOne (Comes b last) (step b p last)
step_comes b p last =
    cond_both (eqb (length b) 0) over (stepped p (timely p last (front b))) (AtOne (Comes b last)) (λ _. tt)
    (λ _. timely_one b p last (front b) (front_lies b))

-- what a reader at `at` in xs tells by a record: where it stands then, and what the record is
pub record Came (xs : List ℕ) (at last next after q : ℕ) (r : Plain) : Type 0 where
  pub is : step (drop at xs) at last ≡ one q r
  pub moved : next ≡ at + size_of r
  pub timed : after ≡ time_of r
  pub fits : at + size_of r ≤ length xs
  pub symbol : good_symbol r ≡ true
  pub fields : good_fields r ≡ true
  pub timely : last ≤ time_of r

pub came : (t xs : List ℕ) (at last next after : ℕ) (o : Option Placed) (p : Placed) → at ≤ length xs → t ≡ xs → o ≡ Some p → told (Ok o) ≡ step (drop at t) at last → next ≡ place_after (told (Ok o)) at → after ≡ time_after (told (Ok o)) last → Came xs at last next after p.place (plain p.record)
came t xs at last next after o p low same is gives place time =
    let s : step (drop at xs) at last ≡ one p.place (plain p.record) =
    sym (ap (λ o. told (Ok o)) (sym is) ∙ gives ∙ ap (λ l. step (drop at l) at last) same) in
    let comes = subst (AtOne (Comes (drop at xs) last)) s (step_comes (drop at xs) at last) in
    record {
      is = s;
      moved = place ∙ ap (λ o. place_after (told (Ok o)) at) is;
      timed = time ∙ ap (λ o. time_after (told (Ok o)) last) is;
      fits = omega (arith, comes.0.0, length-drop at xs);
      symbol = comes.0.1;
      fields = comes.0.2;
      timely = comes.1;
    }
