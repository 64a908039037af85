use Rattle.std.proofs.Common.{◌≡◌, ◌<◌, cond, map, length, get_or, is_ok, Ok, Err, Result, sym, refl, ap, ◌∙◌, arith, rules}
use Rattle.std.proofs.lemmas.List.{length-set, length-map}
use Rattle.std.proofs.lemmas.Bool.Decides.{nat_tests}
use Rattle.tape.specs.declared.fault.WriteFault.{WriteFault}
use Rattle.tape.specs.Codes.{Refusal, refusing, write_refusal}
use Rattle.tape.specs.Format.{plain}
use Rattle.tape_laws.proofs.Filling.{first_set}
use Rattle.tape_laws.proofs.Keepings.{kept_none, kept_turn, kept_all, holds_started}
use Rattle.tape_laws.proofs.write.write_tape.Goals as goal

pub loop-item-init : goal.loop-item-init
loop-item-init c =
    let b = c.args.buffer.now in
    let s = c.start-writer.ensures in
    let some : 0 < length c.start-writer.result.buffer.now = grind (arith, nat_tests) in
    let here : 0 < length b = omega (arith, some, ap length s.bytes, length-set b 0 1) in
    (refl, kept_none _ _ _ (ap (λ l. get_or l 0 0) s.bytes ∙ first_set b here) s.place s.time)

told : (x : Result (Unit {0}) WriteFault) (y : Result (Unit {0}) Refusal) → refusing write_refusal x ≡ y → is_ok y ≡ is_ok x
told (Ok u) y h = ap is_ok (sym h)
told (Err e) y h = ap is_ok (sym h)

pub loop-item-preserved : goal.loop-item-preserved
loop-item-preserved c =
    let e = c.append.ensures in
    let counted : c.from-records.result ≡ cond (is_ok c.append.result) 1 0 = search rules in (
      c.loop-item.invariant.0 ∙ sym e.lender,
      kept_turn _ c.args.items.now _ c.loop-item.item-index _ _ _ c.loop-item.invariant.1 c.loop-item-test.true (is_ok c.append.result) (told _ _ e.gives) _ _ _ counted e.bytes e.end,
    )

pub returns : goal.returns
returns c =
    let b = c.args.buffer.now in
    let rs = map plain c.args.items.now in
    let end = c.loop-item.writer.end in
    let all = kept_all c.start-writer.result.buffer.now rs c.loop-item.item-index c.loop-item.writer.buffer.now end c.loop-item.records c.loop-item.invariant.1 (simp length-map (omega arith)) in
    let h = holds_started b _ _ rs end.place c.loop-item.records c.start-writer.ensures.bytes all in
    let place : c.place-bytes.result ≡ end.place = c.place-bytes.ensures ∙ ap (λ e. e.place) c.end.ensures in
    let buffer = h.buffer in
    let tape = h.tape in
    let reads = h.reads in
    record { buffer = search rules; long = place ∙ h.long; many = h.many; tape = search rules; whole = h.whole; reads = search rules }
