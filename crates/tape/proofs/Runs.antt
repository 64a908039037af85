-- A loop over a tape: R says what the answer is from a state b and from what is still to come.
use Rattle.std.proofs.Common.{◌≡◌, ℕ, zero, suc, ◌+◌, ◌≤◌, eqb, leb, List, [], ◌∷◌, length, get_or, drop, sym, ap, ◌∙◌, subst, arith, length-drop, eq-eqb, le-leb}
use Rattle.std.proofs.lemmas.Bool.{cond-true}
use Rattle.std.proofs.lemmas.List.{drop-drop}
use Rattle.tape.specs.Codes.{Refusal, refused, refused_at}
use Rattle.tape.specs.Format.{Plain, size_of, time_of}
use Rattle.tape.specs.Reading.{over, one, bad, step, Outcome, sound, faulty, walk, carry, put, parse}
use Rattle.tape.proofs.Steps.{AtOne, Comes, step_comes, step_none}

-- the answer z is what R gives at state b of the bytes from `at` on
pub record Sofar {B Z : Type 0} (R : B → Outcome → Z) (z : Z) (xs : List ℕ) (b : B) (at last : ℕ) : Type 0 where
  pub fuel : ℕ
  pub enough : length (drop at xs) ≤ fuel
  pub gives : R b (walk fuel (drop at xs) at last) ≡ z

module _ {B Z : Type 0} (R : B → Outcome → Z) (z : Z) (xs : List ℕ) where
  turn_at : (b : B) (next : B) (at last fuel q : ℕ) (r : Plain) → ((o : Outcome) → R b (put r o) ≡ R next o) → length (drop at xs) ≤ fuel → R b (walk fuel (drop at xs) at last) ≡ z → step (drop at xs) at last ≡ one q r → Sofar R z xs next (at + size_of r) (time_of r)
  turn_at b next at last zero q r law low h s = absurd (let w = subst (AtOne (Comes (drop at xs) last)) s (step_comes (drop at xs) at last) in omega arith)
  turn_at b next at last (suc m) q r law low h s =
      let w = subst (AtOne (Comes (drop at xs) last)) s (step_comes (drop at xs) at last) in
      let d : drop (size_of r) (drop at xs) ≡ drop (at + size_of r) xs = drop-drop (size_of r) at xs in
      record {
        fuel = m;
        enough = omega (arith, length-drop at xs, length-drop (at + size_of r) xs);
        gives =
            ap (λ l. R next (walk m l (at + size_of r) (time_of r))) (sym d)
            ∙ sym (law (walk m (drop (size_of r) (drop at xs)) (at + size_of r) (time_of r)))
            ∙ ap (λ s. R b (carry s (λ r. put r (walk m (drop (size_of r) (drop at xs)) (at + size_of r) (time_of r))))) (sym s) ∙ h;
      }

  pub turn : (b : B) (next : B) (at last q : ℕ) (r : Plain) → ((o : Outcome) → R b (put r o) ≡ R next o) → Sofar R z xs b at last → step (drop at xs) at last ≡ one q r → Sofar R z xs next (at + size_of r) (time_of r)
  turn b next at last q r law h s = turn_at b next at last h.fuel q r law h.enough h.gives s

  end_at : (b : B) (at last fuel : ℕ) → R b (walk fuel (drop at xs) at last) ≡ z → step (drop at xs) at last ≡ over → R b (sound []) ≡ z
  end_at b at last zero h s = h
  end_at b at last (suc m) h s =
      ap (λ s. R b (carry s (λ r. put r (walk m (drop (size_of r) (drop at xs)) (at + size_of r) (time_of r))))) (sym s) ∙ h

  pub done : (b : B) (at last : ℕ) → Sofar R z xs b at last → step (drop at xs) at last ≡ over → R b (sound []) ≡ z
  done b at last h s = end_at b at last h.fuel h.gives s

  fail_at : (b : B) (at last fuel : ℕ) (e : Refusal) → length (drop at xs) ≤ fuel → R b (walk fuel (drop at xs) at last) ≡ z → step (drop at xs) at last ≡ bad e → R b (faulty e) ≡ z
  fail_at b at last zero e low h s = absurd (let o = step_none (drop at xs) at last (omega arith) in let w : ◌≡◌ {A = ℕ} 0 1 = cc in omega arith)
  fail_at b at last (suc m) e low h s =
      ap (λ s. R b (carry s (λ r. put r (walk m (drop (size_of r) (drop at xs)) (at + size_of r) (time_of r))))) (sym s) ∙ h

  pub failed : (b : B) (at last : ℕ) (e : Refusal) → Sofar R z xs b at last → step (drop at xs) at last ≡ bad e → R b (faulty e) ≡ z
  failed b at last e h s = fail_at b at last h.fuel e h.enough h.gives s

pub start : {B Z : Type 0} (R : B → Outcome → Z) (b : B) (xs : List ℕ) → length xs ≤ 1048576 → get_or xs 0 0 ≡ 1 → Sofar R (R b (parse xs)) xs b 1 0
start R b xs few first =
    record {
      fuel = length xs;
      enough = omega (arith, length-drop 1 xs);
      gives =
          ap (R b)
          (sym (cond-true (leb (length xs) 1048576) _ (faulty (refused 7)) (le-leb _ _ few) ∙ cond-true (eqb (get_or xs 0 0) 1) (walk (length xs) (drop 1 xs) 1 0) (faulty (refused_at 1 0)) (eq-eqb _ _ first)));
    }

pub first_some : (xs : List ℕ) → get_or xs 0 0 ≡ 1 → 1 ≤ length xs
first_some [] h = absurd (omega arith)
first_some (x ∷ xs) h = omega arith
