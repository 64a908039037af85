-- A tape's records are appended one by one to a new tape: what a turn of that loop keeps, and what it ends in.
use Rattle.std.proofs.Common.{◌≡◌, ℕ, ◌+◌, ◌≤◌, min, true, leb, List, [], ◌∷◌, ◌++◌, length, get_or, drop, is_ok, Ok, Result, sym, refl, ap, ◌∙◌, subst, append_assoc, append-nil, arith, length-append, le-leb}
use Rattle.std.specs.List.{flat_map}
use Rattle.std.proofs.lemmas.Bool.{cond-true}
use Rattle.tape.specs.declared.writer.End.{End}
use Rattle.tape.specs.Codes.{Refusal}
use Rattle.tape.specs.Format.{Plain, time_of, size_of, good_symbol, good_fields, encode}
use Rattle.tape.specs.Reading.{Outcome, sound, faulty, put, over, bad, step, parse, count}
use Rattle.tape.specs.Sound.{InOrder}
use Rattle.tape.specs.Writing.{answer, after, fitness, roomy, end_after, splice}
use Rattle.tape.proofs.Means.{Bytes, sound_means}
use Rattle.tape.proofs.Runs.{Sofar, start, turn, done as ended, failed}
use Rattle.tape.proofs.Splices.{length_encode}
use Rattle.tape.proofs.Steps.{Came}
use Rattle.tape_laws.specs.Copying.{WritesBack}
use Rattle.tape_laws.specs.Keeping.{kept, accepts}
use Rattle.tape_laws.proofs.Filling.{Filled, filled_none, filled_long, filled_more}

-- records behind those that were read already
abbrev pub following : List Plain → Outcome → Outcome
following ks (sound rs) = sound (ks ++ rs)
following ks (faulty f) = faulty f

following_put : (ks : List Plain) (r : Plain) (o : Outcome) → following ks (put r o) ≡ following (ks ++ r ∷ []) o
following_put ks r (sound rs) = ap sound (sym (append_assoc ks (r ∷ []) rs))
following_put ks r (faulty f) = refl

following_none : (o : Outcome) → following [] o ≡ o
following_none (sound rs) = refl
following_none (faulty f) = refl

-- a good record that is in time and has room is appended
pub appended : (room p last : ℕ) (r : Plain) → good_symbol r ≡ true → good_fields r ≡ true → last ≤ time_of r → p + size_of r ≤ room → p + size_of r ≤ 1048576 → answer room p last r ≡ Ok tt
appended room p last r s f t fits short =
    let fit : fitness p last r ≡ Ok tt =
    cond-true (good_symbol r) _ _ s ∙ cond-true (good_fields r) _ _ f ∙ cond-true (leb last (time_of r)) _ _ (le-leb last (time_of r) t) in
    ap (λ x. after x (roomy (p + size_of r) room)) fit ∙ cond-true (leb (p + size_of r) (min room 1048576)) _ _ (le-leb _ _ (omega arith))

pub record Copied (xs before buffer : List ℕ) (end : End) (at last : ℕ) : Type 0 where
  pub done : List Plain
  pub filled : Filled before done buffer end.place
  pub place : end.place ≡ at
  pub time : end.time ≡ last
  pub sofar : Sofar following (parse xs) xs done at last

pub copied_none : (xs b : List ℕ) (e : End) (at last : ℕ) → length xs ≤ 1048576 → get_or xs 0 0 ≡ 1 → at ≡ 1 → last ≡ 0 → get_or b 0 0 ≡ 1 → e.place ≡ 1 → e.time ≡ 0 → Copied xs b b e at last
copied_none xs b e at last few version p0 t0 some p t =
    record {
      done = [];
      filled = subst (Filled b [] b) (sym p) (filled_none b some);
      place = p ∙ sym p0;
      time = t ∙ sym t0;
      sofar =
          subst (λ z. Sofar following z xs [] at last) (following_none (parse xs))
          (subst (λ x. Sofar following (following [] (parse xs)) xs [] x last) (sym p0)
          (subst (λ x. Sofar following (following [] (parse xs)) xs [] 1 x) (sym t0) (start following [] xs few version)));
    }

module _ (xs before buffer : List ℕ) (end : End) (at last : ℕ) (h : Copied xs before buffer end at last) where
  pub copied_answer : (next time q : ℕ) (r : Plain) → Came xs at last next time q r → length xs ≤ length before → length xs ≤ 1048576 → answer (length buffer) end.place end.time r ≡ Ok tt
  copied_answer next time q r k room few =
      let long = filled_long before h.done buffer end.place h.filled in
      appended (length buffer) end.place end.time r k.symbol k.fields (omega (arith, h.time, k.timely)) (omega (arith, long, h.place, k.fits)) (omega (arith, h.place, k.fits))

  pub copied_more : (next time q : ℕ) (r : Plain) → Came xs at last next time q r → length xs ≤ length before → (buffer' : List ℕ) (end' : End) → buffer' ≡ splice end.place (encode r) buffer → end' ≡ end_after end r → Copied xs before buffer' end' next time
  copied_more next time q r k room buffer' end' bs es =
      let place = ap (λ e. e.place) es in
      let more = filled_more before h.done buffer end.place h.filled r (omega (arith, h.place, k.fits)) in
      record {
        done = h.done ++ r ∷ [];
        filled =
            subst (λ b. Filled before (h.done ++ r ∷ []) b end'.place) (sym bs)
            (subst (Filled before (h.done ++ r ∷ []) (splice end.place (encode r) buffer)) (sym place) more);
        place = omega (arith, place, h.place, k.moved);
        time = ap (λ e. e.time) es ∙ sym k.timed;
        sofar =
            subst (λ x. Sofar following (parse xs) xs (h.done ++ r ∷ []) x time) (sym k.moved)
            (subst (λ x. Sofar following (parse xs) xs (h.done ++ r ∷ []) (at + size_of r) x) (sym k.timed)
            (turn following (parse xs) xs h.done (h.done ++ r ∷ []) at last q r (following_put h.done r) h.sofar k.is));
      }

  pub copied_all : step (drop at xs) at last ≡ over → parse xs ≡ sound h.done
  copied_all s = sym (ended following (parse xs) xs h.done at last h.sofar s) ∙ ap sound (append-nil h.done)

  pub copied_failed : (f : Refusal) → step (drop at xs) at last ≡ bad f → parse xs ≡ faulty f
  copied_failed f s = sym (failed following (parse xs) xs h.done at last f h.sofar s)

pub count_sound : (n : ℕ) (o : Outcome) → ◌≡◌ {A = Result ℕ Refusal} (Ok n) (count 0 o) → (rs : List Plain) × (o ≡ sound rs)
count_sound n (sound rs) e = (rs, refl)
count_sound n (faulty f) e = absurd (let z : ◌≡◌ {A = ℕ} 0 1 = cc in omega arith)

-- a writer with room for all of them keeps records that are in order
kept_inorder : (room p last : ℕ) (rs : List Plain) → InOrder last rs → p + length (flat_map encode rs) ≤ room → p + length (flat_map encode rs) ≤ 1048576 → kept room p last rs ≡ rs
kept_inorder room p last [] h fits short = refl
kept_inorder room p last (r ∷ rs) h fits short =
    let long = length-append (encode r) (flat_map encode rs) in
    let size = length_encode r in
    let ok = appended room p last r h.0 h.1 h.2 (omega arith) (omega arith) in
    cond-true (accepts room p last r) _ _ (ap is_ok ok) ∙ ap (λ l. r ∷ l) (kept_inorder room (p + size_of r) (time_of r) rs h.3 (omega arith) (omega arith))

pub writes_back : (b : List ℕ) (room : ℕ) → Bytes b → WritesBack b room
writes_back b room h rs e fits =
    let s = sound_means b rs h e in
    let long = ap length s.bytes in
    (kept_inorder room 1 0 rs s.inorder (omega arith) (omega (arith, s.short)), sym s.bytes)
