use Rattle.std.proofs.Common.{◌+◌, ◌-◌, ◌*◌, Err, sym, ap, ◌∙◌, subst, arith}
use Rattle.std.proofs.lemmas.Result.{err_from_is_err_and}
use Rattle.tape.proofs.Means.{bytes_all}
use Rattle.reference.specs.Meaning.{Answers}
use Rattle.reference.specs.Windows.{Holds}
use Rattle.reference.proofs.Meanings.{found_means, nothing_means, fault_means}
use Rattle.reference.proofs.Searching.{window_next, window_found, window_end, due_is}
use Rattle.reference.proofs.finding.find_reference.Goals as goal

pub returns-in_err-edges-clause-means : goal.returns-in_err-edges-clause-means
returns-in_err-edges-clause-means c =
    let q = c.args.request.now in
    let b = c.args.tape.now in
    let p = err_from_is_err_and c.from_residual.result c.from_residual.ensures.1 in
    let fits = sym c.is_fit.ensures ∙ c.if-not-is_fit.false in
    subst (Answers q b) (sym (p.1 ∙ ap Err p.2)) (fits, fault_means b _ (bytes_all b (λ i. (c.type_inv.tape i).fits)) c.in_err-edges.ensures)

pub returns-in-Some : goal.returns-in-Some
returns-in-Some c =
    let q = c.args.request.now in
    let b = c.args.tape.now in
    let w = c.loop-windows.windows in
    let h = subst (λ x. Holds b (x - 30000 * w) x c.part-part.result) c.in_ok-edges.ensures.0 c.part-part.ensures in
    let fits = sym c.is_fit.ensures ∙ c.if-not-is_fit.false in
    let is =
    sym (window_found q b w c.part-part.result c.in_ok-tallies.tallies c.first_mean.result h c.in_ok-tallies.ensures.gives c.first_mean.ensures c.in-Some.found c.in-Some.is (omega arith))
    ∙ c.loop-windows.invariant in
    record { gives = is ∙ due_is q b fits; means = (fits, found_means q b h.records h.parsed h.whole c.in-Some.found is) }

pub loop-windows-preserved : goal.loop-windows-preserved
loop-windows-preserved c =
    let q = c.args.request.now in
    let b = c.args.tape.now in
    let w = c.loop-windows.windows in
    let h = subst (λ x. Holds b (x - 30000 * w) x c.part-part.result) c.in_ok-edges.ensures.0 c.part-part.ensures in
    sym (window_next q b w c.part-part.result c.in_ok-tallies.tallies c.first_mean.result h c.in_ok-tallies.ensures.gives c.first_mean.ensures c.in_default.is (omega arith))
    ∙ c.loop-windows.invariant

pub returns-in_default : goal.returns-in_default
returns-in_default c =
    let q = c.args.request.now in
    let b = c.args.tape.now in
    let w = c.loop-windows.windows in
    let h = subst (λ x. Holds b (x - 30000 * w) x c.part-part.result) c.in_ok-edges.ensures.0 c.part-part.ensures in
    let fits = sym c.is_fit.ensures ∙ c.if-not-is_fit.false in
    let none =
    sym (window_end q b (w + 1) h.records h.parsed (omega arith))
    ∙ sym (window_next q b w c.part-part.result c.in_ok-tallies.tallies c.first_mean.result h c.in_ok-tallies.ensures.gives c.first_mean.ensures c.in_default.is (omega arith))
    ∙ c.loop-windows.invariant in
    record { gives = none ∙ due_is q b fits; means = (fits, nothing_means q b h.records h.parsed h.whole none) }
