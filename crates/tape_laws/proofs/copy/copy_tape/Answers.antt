use Rattle.std.proofs.Common.{◌≡◌, ℕ, ◌<◌, ◌≤◌, List, length, get_or, drop, set, Ok, Err, Result, sym, refl, ap, ◌∙◌, arith, rules}
use Rattle.std.proofs.lemmas.List.{length-set}
use Rattle.tape.specs.declared.fault.WriteFault.{WriteFault}
use Rattle.tape.specs.Codes.{Refusal, write_refusal}
use Rattle.tape.specs.Format.{Plain, plain, tape_of}
use Rattle.tape.specs.Reading.{Outcome, sound, faulty, step, told, parse}
use Rattle.tape.specs.Sound.{Sound}
use Rattle.tape.proofs.Means.{bytes_all, sound_means}
use Rattle.tape.proofs.Runs.{first_some}
use Rattle.tape.proofs.Steps.{Came, came}
use Rattle.tape_laws.specs.Keeping.{overlaid}
use Rattle.tape_laws.proofs.Copies.{copied_none, copied_answer, copied_more, copied_all, copied_failed, count_sound, writes_back}
use Rattle.tape_laws.proofs.Filling.{started, first_set}
use Rattle.tape_laws.proofs.copy.copy_tape.Goals as goal

not_both : (o : Outcome) (rs : List Plain) (f : Refusal) → o ≡ sound rs → o ≡ faulty f → ⊥
not_both o rs f s e = let z : ◌≡◌ {A = ℕ} 0 1 = cc in omega arith

pub loop-placed-init : goal.loop-placed-init
loop-placed-init c =
    let xs = c.args.tape.now in
    let b = c.args.buffer.now in
    let o = c.in_ok-reader.ensures in
    let w = c.start-writer.ensures in
    let some = first_some xs o.1 in
    let room : 0 < length b = omega arith in (
      refl,
      o.2,
      omega (arith, o.3, some),
      copied_none xs _ _ _ _ o.0 o.1 o.3 o.4 (ap (λ l. get_or l 0 0) w.bytes ∙ first_set b room) w.place w.time,
    )

pub returns-in_err-placed : goal.returns-in_err-placed
returns-in_err-placed c =
    let xs = c.args.tape.now in
    let at = c.loop-placed.reader.at in
    let last = c.loop-placed.reader.last in
    let s = c.in_err-placed.ensures.gives ∙ ap (λ l. step (drop at l) at last) c.loop-placed.invariant.1 in
    let fails = copied_failed xs _ _ _ at last c.loop-placed.invariant.3 _ (sym s) in
    absurd (not_both (parse xs) _ _ (count_sound _ (parse xs) c.in_ok-check.ensures.counts).1 fails)

comes : (c : goal.In_ok-append) → Came c.args.tape.now c.loop-placed.reader.at c.loop-placed.reader.last c.next.new.self.at c.next.new.self.last c.in-Some.placed.place (plain c.in-Some.placed.record)
comes c =
    let got = c.in_ok-placed.ensures in
    came _ _ _ _ _ _ _ _ c.loop-placed.invariant.2 c.loop-placed.invariant.1 c.in-Some.is got.gives got.place got.time

pub loop-placed-preserved : goal.loop-placed-preserved
loop-placed-preserved c =
    let k = comes c in
    let e = c.in_ok-append.ensures in
    let room : length c.args.tape.now ≤ length c.start-writer.result.buffer.now =
    omega (arith, ap length c.start-writer.ensures.bytes, length-set c.args.buffer.now 0 1) in (
      c.loop-placed.invariant.0 ∙ sym e.lender,
      c.in_ok-placed.ensures.same ∙ c.loop-placed.invariant.1,
      omega (arith, k.moved, k.fits),
      copied_more _ _ _ _ _ _ c.loop-placed.invariant.3 _ _ _ _ k room _ _ e.bytes e.end,
    )

never : (e : WriteFault) (x : Result (Unit {0}) Refusal) → Err (write_refusal e) ≡ x → x ≡ Ok tt → ⊥
never e x s t = let z : ◌≡◌ {A = ℕ} 0 1 = cc in omega arith

pub returns-in_err-append : goal.returns-in_err-append
returns-in_err-append c =
    let got = c.in_ok-placed.ensures in
    let k = came _ c.args.tape.now _ _ _ _ _ _ c.loop-placed.invariant.2 c.loop-placed.invariant.1 c.in-Some.is got.gives got.place got.time in
    let room : length c.args.tape.now ≤ length c.start-writer.result.buffer.now =
    omega (arith, ap length c.start-writer.ensures.bytes, length-set c.args.buffer.now 0 1) in
    let ok = copied_answer _ _ _ _ _ _ c.loop-placed.invariant.3 _ _ _ _ k room c.in_ok-reader.ensures.0 in
    absurd (never c.in_err-append.field-0.0 _ c.in_err-append.ensures.gives ok)

-- the copy is the tape, over the buffer as it was
ended : (xs b start after : List ℕ) (rs : List Plain) → start ≡ set b 0 1 → Sound xs rs → after ≡ overlaid (tape_of rs) start → after ≡ overlaid xs b
ended xs b start after rs is s h = h ∙ ap (overlaid (tape_of rs)) is ∙ started rs b ∙ ap (λ l. overlaid l b) (sym s.bytes)

pub returns-clause-bytes : goal.returns-clause-bytes
returns-clause-bytes c =
    let xs = c.args.tape.now in
    let at = c.loop-placed.reader.at in
    let last = c.loop-placed.reader.last in
    let h = c.loop-placed.invariant.3 in
    let s = ap (λ o. told (Ok o)) (sym c.in_default.is) ∙ c.in_ok-placed.ensures.gives ∙ ap (λ l. step (drop at l) at last) c.loop-placed.invariant.1 in
    let whole = sound_means xs h.done (bytes_all xs (λ i. (c.type_inv.tape i).fits)) (copied_all xs _ _ _ at last h (sym s)) in
    let same = ended xs c.args.buffer.now c.start-writer.result.buffer.now c.loop-placed.writer.buffer.now h.done c.start-writer.ensures.bytes whole h.filled.bytes in
    search rules

pub returns-clause-writes : goal.returns-clause-writes
returns-clause-writes c = writes_back c.args.tape.now (length c.args.buffer.now) (bytes_all c.args.tape.now (λ i. (c.type_inv.tape i).fits))
