-- The promise, from what each day's part is.
use Rattle.std.proofs.Common.{◌≡◌, ℕ, Bool, true, false, cond, Ok, Result, sym, refl, ap, ◌∙◌, subst, arith}
use Rattle.tape.specs.Codes.{Refusal}
use Rattle.reference.specs.declared.finding.Reference.{Reference}
use Rattle.reference.specs.declared.finding.Request.{Request}
use Rattle.reference.specs.Finding as reference
use Rattle.limits.specs.Meaning.{Meaning, Lawful}
use Rattle.day.specs.declared.view.View.{View}
use Rattle.days.specs.Telling.{Told}
use Rattle.days.specs.Past.{clock, accepted}
use Rattle.promise.specs.Parts.{Given, Part, not_opened, ran, reference_in, Referred, opens_at, opened, part_of, part_due}
use Rattle.promise.specs.Promise.{Kept, OpenAlike, both, neither, Promise}
use Rattle.promise.proofs.References.{one_due}
use Rattle.promise.proofs.Runs.{Ran, run, ran_is, reference_is}
use Rattle.promise.proofs.Answering.{agreed, same_told}
use Rattle.promise.proofs.Keeping.{keeps}
use Rattle.promise.proofs.Reordering.{months_reordered, series_reordered}

module _ (m : Meaning) (q : Request) where
  module _ (d : Given) (one : Part) (is : one ≡ part_due m q d) where
    abbrev found : Result Reference Refusal
    found = reference.due q d.tape

    ran_so : (r : Reference) (p k : ℕ) (v : View) (a : Told) → one ≡ ran r p k v a → Ran m r p d.calls d.next k v a
    ran_so r p k v a e = ran_is m d.calls d.next found r p k v a (sym is ∙ e)

    reference_so : reference_in one ≡ found
    reference_so = ap reference_in is ∙ reference_is m d.calls d.next found

    kept : Lawful m → Referred q d.tape (reference_in one) → Kept m q d one
    kept law refers = record {
      due = is;
      refers = refers;
      opens = λ r p k v a e. (ran_so r p k v a e).price;
      keeps = λ r p k v a e.
          let w = ran_so r p k v a e in
          keeps m law p w.takes d.calls d.next k v a w.clock_is w.view_is w.answer_is;
    }

  -- two parts of one reference
  alike : (d e : Given) (r : Reference) (b : Bool) → m.takes (opens_at m r) ≡ b
      → OpenAlike m r (cond b (run m d.calls d.next r) (not_opened r 10)) (cond b (run m e.calls e.next r) (not_opened r 10))
  alike d e r true taken = both taken
  alike d e r false left = neither left

  opened_alike : (d e : Given) (one two : Part) (r : Reference) → one ≡ part_due m q d → two ≡ part_due m q e
      → reference.due q d.tape ≡ Ok r → reference.due q e.tape ≡ Ok r → OpenAlike m r one two
  opened_alike d e one two r is ie here there =
      let first = is ∙ ap (λ (R : Result Reference Refusal). part_of m R d.calls d.next) here in
      let second = ie ∙ ap (λ (R : Result Reference Refusal). part_of m R e.calls e.next) there in
      subst (λ (x : Part). OpenAlike m r x two) (sym first)
      (subst (λ (x : Part). OpenAlike m r (opened m r (opens_at m r) d.calls d.next) x) (sym second) (alike d e r (m.takes (opens_at m r)) refl))

  pub promised : Lawful m → (d e : Given) (one two : Part) → one ≡ part_due m q d → two ≡ part_due m q e
      → Referred q d.tape (reference_in one) → Referred q e.tape (reference_in two) → Promise m q d e one two
  promised law d e one two is ie refers refers_too = record {
    first = kept d one is law refers;
    second = kept e two ie law refers_too;
    one_reference = λ same. reference_so d one is ∙ one_due q d.tape e.tape same ∙ sym (reference_so e two ie);
    open_alike = λ r same at.
        let here = sym (reference_so d one is) ∙ at in
        let there = sym (one_due q d.tape e.tape same) ∙ here in
        opened_alike d e one two r is ie here there;
    same_answer = λ r s p k l v w a b er es agree at asks g h.
        let x = ran_so d one is r p k v a er in
        let y = ran_so e two ie s p l w b es in
        let marks = agreed (accepted m p d.calls) (accepted m p e.calls) agree in
        let ck = x.clock_is in
        let cl = y.clock_is in
        let told =
        same_told m p (accepted m p d.calls) (accepted m p e.calls) (clock m p d.calls) (clock m p e.calls) d.next e.next marks at asks (omega arith) (omega arith)
        in
        (x.answer_is ∙ told ∙ sym y.answer_is, x.answer_is);
    months_in_any_order = months_reordered;
    series_in_any_order = series_reordered;
  }
