use Rattle.std.proofs.Common.{length, replicate, Err, sym, refl, ap, ◌∙◌, subst}
use Rattle.std.proofs.lemmas.List.{get_or-replicate, length-replicate}
use Rattle.std.proofs.lemmas.Result.{err_from_is_err_and}
use Rattle.tape.specs.Format.{plain}
use Rattle.tape.proofs.Means.{bytes_all}
use Rattle.tape.proofs.Steps.{Came, came}
use Rattle.reference.specs.Edges.{Finds}
use Rattle.reference.proofs.Edging.{noted_start, noted_turn, noted_done, noted_failed}
use Rattle.reference.proofs.window.find_edges.Goals as goal

pub loop-placed-init : goal.loop-placed-init
loop-placed-init c =
    let o = c.in_ok-reader.ensures in
    (o.2, noted_start c.args.close c.args.tape.now (replicate 21 (length c.args.tape.now)) _ _ _ o.0 o.1 o.3 o.4 refl refl)

pub returns-in_err-placed : goal.returns-in_err-placed
returns-in_err-placed c =
    let p = err_from_is_err_and c.from_residual-in_err-placed.result c.from_residual-in_err-placed.ensures.1 in
    let fails = noted_failed c.args.close c.args.tape.now (replicate 21 (length c.args.tape.now)) _ _ _ _ _ c.loop-placed.invariant.0 c.loop-placed.invariant.1 c.in_err-placed.ensures.gives in
    subst (Finds c.args.tape.now c.args.close) (sym (p.1 ∙ ap Err p.2)) fails

comes : (c : goal.After-note) → Came c.args.tape.now c.loop-placed.reader.at c.loop-placed.reader.last c.next.new.self.at c.next.new.self.last c.in-Some.placed.place (plain c.in-Some.placed.record)
comes c =
    let got = c.in_ok-placed.ensures in
    came c.loop-placed.reader.tape.now c.args.tape.now c.loop-placed.reader.at c.loop-placed.reader.last _ _ _ _ c.loop-placed.invariant.1.inside c.loop-placed.invariant.0 c.in-Some.is got.gives got.place got.time

pub loop-placed-preserved : goal.loop-placed-preserved
loop-placed-preserved c =
    let e = c.note.ensures in (
      c.in_ok-placed.ensures.same ∙ c.loop-placed.invariant.0,
      noted_turn c.args.close c.args.tape.now (replicate 21 (length c.args.tape.now)) c.loop-placed.edges c.note.new.self _ _ _ _ _ _ (plain c.in-Some.placed.record) c.loop-placed.invariant.1 (comes c) c.time.ensures e.close e.places,
    )

pub returns : goal.returns
returns c =
    let bytes = bytes_all c.args.tape.now (λ i. (c.type_inv.tape i).fits) in
    let h = c.loop-placed.invariant.1 in
    (h.close, noted_done c.args.close c.args.tape.now (replicate 21 (length c.args.tape.now)) _ _ _ _ _ (length-replicate 21 (length c.args.tape.now)) (λ i l. get_or-replicate 21 i (length c.args.tape.now) 0 l) bytes c.loop-placed.invariant.0 h c.in_default.is c.in_ok-placed.ensures.gives)
