-- The loop that finds the edges: what a turn of it keeps, and what it ends in.
use Rattle.std.proofs.Common.{◌≡◌, ℕ, ◌+◌, ◌-◌, ◌*◌, ◌<◌, ◌≤◌, eqb, List, length, get_or, drop, None, Ok, Err, fold, Option, Result, sym, refl, ap, ◌∙◌, subst, arith}
use Rattle.std.proofs.lemmas.List.{length-set}
use Rattle.std.proofs.lemmas.Bool.{cond_both}
use Rattle.tape.specs.declared.reader.Placed.{Placed}
use Rattle.tape.specs.Codes.{Refusal}
use Rattle.tape.specs.Format.{Plain, time_of, size_of}
use Rattle.tape.specs.Reading.{front, timely, Step, over, one, bad, stepped, step, told, Outcome, sound, faulty, parse}
use Rattle.tape.proofs.Means.{Bytes, sound_means}
use Rattle.tape.proofs.Runs.{Sofar, start, turn, done, failed, first_some}
use Rattle.tape.proofs.Steps.{Came}
use Rattle.reference.specs.declared.window.Edges.{Edges}
use Rattle.reference.specs.Windows.{edge}
use Rattle.reference.specs.Edges.{window_of, lowest, Edged}
use Rattle.reference.proofs.Noting.{noted, Seen, noting, places_from, places_put, edge_found, lowest_same}
use Rattle.reference.proofs.Parts.{length_tape}

-- a record is told at the place where the reader stood
abbrev AtPlace : ℕ → Step → Type 0
AtPlace p over = Unit {0}
AtPlace p (one q r) = q ≡ p
AtPlace p (bad e) = Unit {0}

stepped_at : (p : ℕ) (x : Result Plain Refusal) → AtPlace p (stepped p x)
stepped_at p (Ok r) = refl
stepped_at p (Err f) = tt

step_at : (b : List ℕ) (p last : ℕ) → AtPlace p (step b p last)
step_at b p last = cond_both (eqb (length b) 0) over (stepped p (timely p last (front b))) (AtPlace p) (λ _. tt) (λ _. stepped_at p (timely p last (front b)))

abbrev seen : ℕ → List ℕ → Seen
seen n ps = record { next = n; places = ps }

-- the edges e, begun at the places ps, are those of the records before `at`
pub record Noted (c : ℕ) (xs ps : List ℕ) (e : Edges) (at last : ℕ) : Type 0 where
  pub close : e.close ≡ c
  pub many : length e.places ≡ length ps
  pub inside : at ≤ length xs
  pub sofar : Sofar (places_from c) (places_from c (seen 1 ps) (parse xs)) xs (record { next = at; places = e.places }) at last

module _ (c : ℕ) (xs ps : List ℕ) where
  pub noted_start : (e : Edges) (at last : ℕ) → length xs ≤ 1048576 → get_or xs 0 0 ≡ 1 → at ≡ 1 → last ≡ 0 → e.close ≡ c → e.places ≡ ps → Noted c xs ps e at last
  noted_start e at last short first a l close places =
      let z = places_from c (seen 1 ps) (parse xs) in
      record {
        close = close;
        many = ap length places;
        inside = omega (arith, a, first_some xs first);
        sofar =
            subst (λ x. Sofar (places_from c) z xs (seen x e.places) x last) (sym a)
            (subst (λ x. Sofar (places_from c) z xs (seen 1 e.places) 1 x) (sym l)
            (subst (λ l. Sofar (places_from c) z xs (seen 1 l) 1 0) (sym places) (start (places_from c) (seen 1 ps) xs short first)));
      }

  pub noted_turn : (e f : Edges) (at last next after q t : ℕ) (r : Plain) → Noted c xs ps e at last → Came xs at last next after q r → t ≡ time_of r → f.close ≡ e.close → f.places ≡ noted e.places (window_of e.close t) q → Noted c xs ps f next after
  noted_turn e f at last next after q t r h k timed close places =
      let z = places_from c (seen 1 ps) (parse xs) in
      let here : q ≡ at = subst (AtPlace at) k.is (step_at (drop at xs) at last) in
      let same : f.places ≡ noted e.places (window_of c (time_of r)) at =
      places ∙ ap (λ x. noted e.places (window_of x t) q) h.close ∙ ap (λ x. noted e.places (window_of c x) q) timed ∙ ap (noted e.places (window_of c (time_of r))) here in
      record {
        close = close ∙ h.close;
        many = ap length places ∙ length-set e.places (window_of e.close t) _ ∙ h.many;
        inside = omega (arith, k.moved, k.fits);
        sofar =
            subst (λ x. Sofar (places_from c) z xs (seen x f.places) x after) (sym k.moved)
            (subst (λ x. Sofar (places_from c) z xs (seen (at + size_of r) f.places) (at + size_of r) x) (sym k.timed)
            (subst (λ l. Sofar (places_from c) z xs (seen (at + size_of r) l) (at + size_of r) (time_of r)) (sym same)
            (turn (places_from c) z xs (seen at e.places) (noting c (seen at e.places) r) at last q r (places_put c (seen at e.places) r) h.sofar k.is)));
      }

  ended : (l : List ℕ) (o : Outcome) → Ok l ≡ places_from c (seen 1 ps) o → (rs : List Plain) × (o ≡ sound rs) × (l ≡ (fold (noting c) (seen 1 ps) rs).places)
  ended l (sound rs) h = (rs, refl, cc)
  ended l (faulty f) h = absurd (let z : ◌≡◌ {A = ℕ} 0 1 = cc in omega arith)

  pub noted_done : (t : List ℕ) (e : Edges) (at last : ℕ) (o : Option Placed) → length ps ≡ 21 → ((i : ℕ) → i < 21 → get_or ps i 0 ≡ length xs) → Bytes xs → t ≡ xs → Noted c xs ps e at last → o ≡ None → told (Ok o) ≡ step (drop at t) at last → Edged xs e
  noted_done t e at last o many all bytes same h none gives =
      let s : step (drop at xs) at last ≡ over = ap (λ l. step (drop at l) at last) (sym same) ∙ sym gives ∙ ap (λ o. told (Ok o)) none in
      let m = ended e.places (parse xs) (done (places_from c) _ xs (seen at e.places) at last h.sofar s) in
      let rs = m.0 in
      let whole = sound_means xs rs bytes m.1 in
      let long = length_tape xs rs whole in
      record {
        records = rs;
        parsed = m.1;
        whole = whole;
        many = h.many ∙ many;
        edges =
            λ w few.
            ap (λ l. lowest l w) m.2
            ∙ edge_found c w 0 rs (seen 1 ps) whole.inorder (omega (arith, many)) (lowest_same ps (length xs) w 21 all (omega arith) ∙ long)
            ∙ ap (λ x. edge (x - 30000 * w) rs) (sym h.close);
      }

  fails : (f : Refusal) (o : Outcome) → Err f ≡ places_from c (seen 1 ps) o → o ≡ faulty f
  fails f (sound rs) h = absurd (let z : ◌≡◌ {A = ℕ} 0 1 = cc in omega arith)
  fails f (faulty g) h = cc

  pub noted_failed : (t : List ℕ) (e : Edges) (at last : ℕ) (f : Refusal) → t ≡ xs → Noted c xs ps e at last → bad f ≡ step (drop at t) at last → parse xs ≡ faulty f
  noted_failed t e at last f same h gives =
      let s : step (drop at xs) at last ≡ bad f = ap (λ l. step (drop at l) at last) (sym same) ∙ sym gives in
      fails f (parse xs) (failed (places_from c) _ xs (seen at e.places) at last f h.sofar s)
