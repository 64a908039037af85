use Rattle.std.proofs.Common.{◌≡◌, ℕ, ◌+◌, ◌≤◌, length, drop, Ok, Err, sym, refl, ap, ◌∙◌, subst, arith, rules}
use Rattle.std.proofs.lemmas.Result.{err_from_is_err_and}
use Rattle.tape.specs.Codes.{refusing, tape_refusal}
use Rattle.tape.specs.Format.{Plain, plain, size_of}
use Rattle.tape.specs.Reading.{Outcome, sound, faulty, put, step, told, count, parse}
use Rattle.tape.proofs.Means.{bytes_all, verdict}
use Rattle.tape.proofs.Runs.{Sofar, first_some, start, turn, done, failed}
use Rattle.tape.proofs.Steps.{Came, came}
use Rattle.tape.proofs.reader.check.Goals as goal

count_put : (n : ℕ) (r : Plain) (o : Outcome) → count n (put r o) ≡ count (n + 1) o
count_put n r (sound rs) = ap Ok (omega arith)
count_put n r (faulty e) = refl

pub returns-in_err-reader-clause-means : goal.returns-in_err-reader-clause-means
returns-in_err-reader-clause-means c =
    let xs = c.args.tape.now in
    verdict xs _ (bytes_all xs (λ i. (c.type_inv.tape i).fits)) (search rules)

pub loop-records-init : goal.loop-records-init
loop-records-init c =
    let xs = c.args.tape.now in
    let o = c.in_ok-reader.ensures in
    let some : 1 ≤ length xs = first_some xs o.1 in
    let z = count 0 (parse xs) in (
      o.2,
      omega arith,
      omega (arith, o.3, some),
      subst (λ x. Sofar count z xs 0 x c.in_ok-reader.reader.last) (sym o.3)
          (subst (λ x. Sofar count z xs 0 1 x) (sym o.4) (start count 0 xs o.0 o.1)),
    )

comes : (c : goal.In-Some) → Came c.args.tape.now c.loop-records.reader.at c.loop-records.reader.last c.next.new.self.at c.next.new.self.last c.in-Some.field-0.place (plain c.in-Some.field-0.record)
comes c =
    let got = c.in_ok-next.ensures in
    came _ _ _ _ _ _ _ _ c.loop-records.invariant.2 c.loop-records.invariant.0 c.in-Some.is got.gives got.place got.time

pub returns-in_err-next : goal.returns-in_err-next
returns-in_err-next c =
    let xs = c.args.tape.now in
    let at = c.loop-records.reader.at in
    let last = c.loop-records.reader.last in
    let p = err_from_is_err_and c.from_residual-in_err-next.result c.from_residual-in_err-next.ensures.1 in
    let is = p.1 ∙ ap Err p.2 in
    let s = c.in_err-next.ensures.gives ∙ ap (λ l. step (drop at l) at last) c.loop-records.invariant.0 in
    let counts = ap (refusing tape_refusal) is ∙ failed count _ xs c.loop-records.records at last _ c.loop-records.invariant.3 (sym s) in
    record { counts = counts; means = verdict xs _ (bytes_all xs (λ i. (c.type_inv.tape i).fits)) counts }

pub loop-records-preserved : goal.loop-records-preserved
loop-records-preserved c =
    let xs = c.args.tape.now in
    let at = c.loop-records.reader.at in
    let last = c.loop-records.reader.last in
    let n = c.loop-records.records in
    let r = plain c.in-Some.field-0.record in
    let k = comes c in
    let z = count 0 (parse xs) in (
      c.in_ok-next.ensures.same ∙ c.loop-records.invariant.0,
      omega (arith, k.moved, c.loop-records.invariant.1),
      omega (arith, k.moved, k.fits),
      subst (λ x. Sofar count z xs (n + 1) x c.next.new.self.last) (sym k.moved)
          (subst (λ y. Sofar count z xs (n + 1) (at + size_of r) y) (sym k.timed)
          (turn count z xs n (n + 1) at last _ r (count_put n r) c.loop-records.invariant.3 k.is)),
    )

pub returns : goal.returns
returns c =
    let xs = c.args.tape.now in
    let at = c.loop-records.reader.at in
    let last = c.loop-records.reader.last in
    let n = c.loop-records.records in
    let s = ap (λ o. told (Ok o)) (sym c.in_default.is) ∙ c.in_ok-next.ensures.gives ∙ ap (λ l. step (drop at l) at last) c.loop-records.invariant.0 in
    let counts : refusing tape_refusal (Ok n) ≡ count 0 (parse xs) = ap Ok (omega arith) ∙ done count _ xs n at last c.loop-records.invariant.3 (sym s) in
    record { counts = counts; means = verdict xs (Ok n) (bytes_all xs (λ i. (c.type_inv.tape i).fits)) counts }
