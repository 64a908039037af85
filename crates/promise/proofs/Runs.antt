-- A day's part, taken apart.
use Rattle.std.proofs.Common.{◌≡◌, ℕ, Bool, true, false, cond, List, Ok, Err, Result, sym, refl, ◌∙◌, subst}
use Rattle.std.proofs.lemmas.Bool.{cond-true}
use Rattle.tape.specs.Codes.{Refusal}
use Rattle.reference.specs.declared.finding.Reference.{Reference}
use Rattle.limits.specs.Meaning.{Meaning}
use Rattle.day.specs.declared.view.View.{View}
use Rattle.days.specs.Asking.{CallData}
use Rattle.days.specs.Telling.{Told}
use Rattle.days.specs.Past.{clock}
use Rattle.days.specs.Due.{shown_due, told_due}
use Rattle.promise.specs.Parts.{Part, not_opened, ran, reference_in, opens_at, opened, part_of}

-- what a part that ran holds
pub record Ran (m : Meaning) (r : Reference) (p : ℕ) (cs : List CallData) (c : CallData) (k : ℕ) (v : View) (a : Told) : Type 0 where
  pub takes : m.takes p ≡ true
  pub price : p ≡ opens_at m r
  pub clock_is : k ≡ clock m p cs
  pub view_is : v ≡ shown_due m p cs
  pub answer_is : a ≡ told_due m p cs c

module _ (m : Meaning) (cs : List CallData) (c : CallData) where
  same_ran : (r : Reference) {p q k l : ℕ} {v w : View} {a b : Told} → p ≡ q → k ≡ l → v ≡ w → a ≡ b → ◌≡◌ {A = Part} (ran r p k v a) (ran r q l w b)
  same_ran r d e f g = cc

  -- what the code puts together is the part of an opened day
  pub runs : (r : Reference) (p k : ℕ) (v : View) (a : Told) → m.takes (opens_at m r) ≡ true → p ≡ opens_at m r → k ≡ clock m (opens_at m r) cs
      → v ≡ shown_due m (opens_at m r) cs → a ≡ told_due m (opens_at m r) cs c → ran r p k v a ≡ opened m r (opens_at m r) cs c
  runs r p k v a taken price is shown told =
      same_ran r price is shown told ∙ sym (cond-true (m.takes (opens_at m r)) _ (not_opened r 10) taken)

  -- what an opened day comes to
  abbrev pub run : Reference → Part
  run r = ran r (opens_at m r) (clock m (opens_at m r) cs) (shown_due m (opens_at m r) cs) (told_due m (opens_at m r) cs c)

  opened_ran : (s : Reference) (b : Bool) (r : Reference) (p k : ℕ) (v : View) (a : Told) → m.takes (opens_at m s) ≡ b
      → cond b (run s) (not_opened s 10) ≡ ran r p k v a → Ran m r p cs c k v a
  opened_ran s false r p k v a t e = cc
  opened_ran s true r p k v a t e =
      let same : s ≡ r = cc in
      let price : opens_at m s ≡ p = cc in
      let w : Ran m s (opens_at m s) cs c k v a = record { takes = t; price = refl; clock_is = cc; view_is = cc; answer_is = cc } in
      subst (λ (q : ℕ). Ran m r q cs c k v a) price (subst (λ (x : Reference). Ran m x (opens_at m s) cs c k v a) same w)

  pub ran_is : (R : Result Reference Refusal) (r : Reference) (p k : ℕ) (v : View) (a : Told) → part_of m R cs c ≡ ran r p k v a → Ran m r p cs c k v a
  ran_is (Ok s) r p k v a e = opened_ran s (m.takes (opens_at m s)) r p k v a refl e
  ran_is (Err f) r p k v a e = cc

  opened_reference : (b : Bool) (r : Reference) → reference_in (cond b (run r) (not_opened r 10)) ≡ Ok r
  opened_reference true r = refl
  opened_reference false r = refl

  -- a part holds the reference that it came of
  pub reference_is : (R : Result Reference Refusal) → reference_in (part_of m R cs c) ≡ R
  reference_is (Ok r) = opened_reference (m.takes (opens_at m r)) r
  reference_is (Err f) = refl
