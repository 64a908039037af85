-- The search, tier by tier and window by window, is the search as it is stated.
use Rattle.std.proofs.Common.{◌≡◌, ℕ, suc, ◌+◌, ◌-◌, ◌*◌, ◌<◌, ◌≤◌, Bool, true, false, cond, ◌&&◌, List, [], ◌∷◌, Some, None, Ok, Err, filter, Option, sym, refl, ap, ◌∙◌, arith}
use Rattle.std.specs.Option.{ok_or}
use Rattle.std.proofs.lemmas.Bool.{cond-true}
use Rattle.tape.specs.Codes.{refused}
use Rattle.tape.specs.Format.{Plain}
use Rattle.tape.specs.Reading.{sound, parse}
use Rattle.reference.specs.declared.finding.Request.{Request}
use Rattle.reference.specs.declared.finding.Reference.{Reference}
use Rattle.reference.specs.declared.sums.Tallies.{Tallies}
use Rattle.reference.specs.declared.window.Part.{Part}
use Rattle.reference.specs.Finding.{else_by, tiers, first_tier, means_of, window, first_window, fit, searched, due, mean_in}
use Rattle.reference.specs.Sums.{named, tallies_of, tallied, row_of}
use Rattle.reference.specs.Windows.{within, Holds}

-- one filter behind another
kept_one : {X : Type 0} (a b : Bool) (x : X) (q : X → Bool) (rest ys : List X) → q x ≡ b → ys ≡ filter q rest → cond (a && b) (x ∷ ys) ys ≡ filter q (cond a (x ∷ rest) rest)
kept_one true b x q rest ys e h = ap (λ l. cond b (x ∷ l) l) h ∙ ap (λ t. cond t (x ∷ filter q rest) (filter q rest)) (sym e)
kept_one false b x q rest ys e h = h

kept_and : {X : Type 0} (p q : X → Bool) (xs : List X) → filter (λ x. p x && q x) xs ≡ filter q (filter p xs)
kept_and p q [] = refl
kept_and p q (x ∷ xs) = kept_one (p x) (q x) x q (filter p xs) (filter (λ x. p x && q x) xs) refl (kept_and p q xs)

module _ (q : Request) (b : List ℕ) (w : ℕ) (part : Part) (t : Tallies) (m : Option Reference) (h : Holds b (q.close - 30000 * w) q.close part) (sums : Ok t ≡ tallied q.symbol.now (row_of part.bytes.now)) (found : m ≡ first_tier (mean_in t) w tiers) where
  tallies_are : t ≡ tallies_of (window q.symbol.now q.close w h.records)
  tallies_are =
      let rs = h.records in
      let e = sums ∙ ap (tallied q.symbol.now) h.reads in
      let a : t ≡ tallies_of (filter (named q.symbol.now) (filter (within (q.close - 30000 * w) q.close) rs)) = cc in
      a ∙ ap tallies_of (sym (kept_and (within (q.close - 30000 * w) q.close) (named q.symbol.now) rs))

  first_is : first_tier (means_of (window q.symbol.now q.close w h.records)) w tiers ≡ m
  first_is = ap (λ t. first_tier (mean_in t) w tiers) (sym tallies_are) ∙ sym found

  -- what is left once window w was tried
  pub window_step : w ≤ q.windows → searched q.symbol.now q.close (parse b) w (q.windows + 1 - w) ≡ ok_or (else_by m (first_window q.symbol.now q.close h.records (w + 1) (q.windows + 1 - (w + 1)))) (refused 9)
  window_step le =
      let n : q.windows + 1 - w ≡ suc (q.windows + 1 - (w + 1)) = omega arith in
      ap (λ o. searched q.symbol.now q.close o w (q.windows + 1 - w)) h.parsed
      ∙ ap (searched q.symbol.now q.close (sound h.records) w) n
      ∙ ap (λ x. ok_or (else_by x (first_window q.symbol.now q.close h.records (w + 1) (q.windows + 1 - (w + 1)))) (refused 9)) first_is

  -- none was found in it
  pub window_next : m ≡ None → w ≤ q.windows → searched q.symbol.now q.close (parse b) w (q.windows + 1 - w) ≡ searched q.symbol.now q.close (parse b) (w + 1) (q.windows + 1 - (w + 1))
  window_next none le =
      window_step le ∙ ap (λ x. ok_or (else_by x (first_window q.symbol.now q.close h.records (w + 1) (q.windows + 1 - (w + 1)))) (refused 9)) none
      ∙ ap (λ o. searched q.symbol.now q.close o (w + 1) (q.windows + 1 - (w + 1))) (sym h.parsed)

  pub window_found : (x : Reference) → m ≡ Some x → w ≤ q.windows → searched q.symbol.now q.close (parse b) w (q.windows + 1 - w) ≡ Ok x
  window_found x is le = window_step le ∙ ap (λ x. ok_or (else_by x (first_window q.symbol.now q.close h.records (w + 1) (q.windows + 1 - (w + 1)))) (refused 9)) is

pub window_end : (q : Request) (b : List ℕ) (w : ℕ) (rs : List Plain) → parse b ≡ sound rs → q.windows < w → searched q.symbol.now q.close (parse b) w (q.windows + 1 - w) ≡ Err (refused 9)
window_end q b w rs parsed h = let n : q.windows + 1 - w ≡ 0 = omega arith in ap (λ o. searched q.symbol.now q.close o w (q.windows + 1 - w)) parsed ∙ ap (searched q.symbol.now q.close (sound rs) w) n

pub due_is : (q : Request) (b : List ℕ) → fit q ≡ true → searched q.symbol.now q.close (parse b) 1 q.windows ≡ due q b
due_is q b h = sym (cond-true (fit q) (searched q.symbol.now q.close (parse b) 1 q.windows) (Err (refused 8)) h)
