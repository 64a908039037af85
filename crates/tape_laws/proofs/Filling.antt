-- A tape that grows at the front of a buffer.
use Rattle.std.proofs.Common.{◌≡◌, ℕ, ◌+◌, ◌<◌, ◌≤◌, true, List, [], ◌∷◌, ◌++◌, length, get_or, take, drop, set, sym, refl, ap, ◌∙◌, append_assoc, arith, length-append, length-drop}
use Rattle.std.proofs.lemmas.List.{drop-drop, take_at, drop_at, flat_map_more}
use Rattle.tape.specs.Format.{Plain, time_of, size_of, good_symbol, good_fields, encode, tape_of}
use Rattle.tape.specs.Sound.{InOrder, latest}
use Rattle.tape.specs.Writing.{splice}
use Rattle.tape.proofs.Splices.{length_encode}
use Rattle.tape_laws.specs.Keeping.{overlaid}

-- the tape of the records ks stands at the front of the buffer, and the next place is behind it
pub record Filled (before : List ℕ) (ks : List Plain) (buffer : List ℕ) (place : ℕ) : Type 0 where
  pub bytes : buffer ≡ overlaid (tape_of ks) before
  pub end : place ≡ length (tape_of ks)
  pub fits : place ≤ length before

pub filled_none : (b : List ℕ) → get_or b 0 0 ≡ 1 → Filled b [] b 1
filled_none [] h = absurd (omega arith)
filled_none (x ∷ b) h = record { bytes = cc; end = refl; fits = omega arith }

-- the version byte is part of the tape
pub started : (ks : List Plain) (b : List ℕ) → overlaid (tape_of ks) (set b 0 1) ≡ overlaid (tape_of ks) b
started ks [] = refl
started ks (x ∷ b) = refl

pub first_set : (b : List ℕ) → 0 < length b → get_or (set b 0 1) 0 0 ≡ 1
first_set [] h = absurd (omega arith)
first_set (x ∷ b) h = refl

pub tape_more : (ks : List Plain) (r : Plain) → tape_of (ks ++ r ∷ []) ≡ tape_of ks ++ encode r
tape_more ks r = sym (flat_map_more encode (1 ∷ []) ks r)

pub length_overlaid : (ys xs : List ℕ) → length ys ≤ length xs → length (overlaid ys xs) ≡ length xs
length_overlaid ys xs h = omega (arith, length-append ys (drop (length ys) xs), length-drop (length ys) xs)

module _ (before : List ℕ) (ks : List Plain) (buffer : List ℕ) (place : ℕ) (h : Filled before ks buffer place) where
  pub filled_long : length buffer ≡ length before
  filled_long = ap length h.bytes ∙ length_overlaid (tape_of ks) before (omega (arith, h.end, h.fits))

  pub filled_tape : take place buffer ≡ tape_of ks
  filled_tape = ap (take place) h.bytes ∙ take_at (tape_of ks) (drop (length (tape_of ks)) before) place (sym h.end)

  pub filled_more : (r : Plain) → place + size_of r ≤ length before → Filled before (ks ++ r ∷ []) (splice place (encode r) buffer) (place + size_of r)
  filled_more r room =
      let tape = tape_of ks in
      let e = encode r in
      let size = length_encode r in
      let join = length-append tape e in
      let rest = drop (length tape) before in
      let d : drop (place + length e) buffer ≡ drop (length (tape ++ e)) before =
      sym (drop-drop (length e) place buffer) ∙ ap (λ l. drop (length e) (drop place l)) h.bytes
      ∙ ap (drop (length e)) (drop_at tape rest place (sym h.end)) ∙ drop-drop (length e) (length tape) before
      ∙ ap (λ n. drop n before) (sym join) in
      record {
        bytes =
            ap (λ l. l ++ (e ++ drop (place + length e) buffer)) filled_tape ∙ ap (λ l. tape ++ (e ++ l)) d
            ∙ sym (append_assoc tape e (drop (length (tape ++ e)) before)) ∙ ap (λ l. overlaid l before) (sym (tape_more ks r));
        end = omega (arith, h.end, join, size, ap length (tape_more ks r));
        fits = room;
      }

-- records in order, and one more that is not earlier
pub inorder_more : (last : ℕ) (ks : List Plain) (r : Plain) → InOrder last ks → good_symbol r ≡ true → good_fields r ≡ true → latest last ks ≤ time_of r → InOrder last (ks ++ r ∷ [])
inorder_more last [] r h s f t = (s, f, t, tt)
inorder_more last (k ∷ ks) r h s f t = (h.0, h.1, h.2, inorder_more (time_of k) ks r h.3 s f t)

pub latest_more : (last : ℕ) (ks : List Plain) (r : Plain) → latest last (ks ++ r ∷ []) ≡ time_of r
latest_more last [] r = refl
latest_more last (k ∷ ks) r = latest_more (time_of k) ks r
