use Rattle.std.proofs.Common.{◌≡◌, Err, sym, ap, ◌∙◌, subst, rules}
use Rattle.std.proofs.lemmas.Result.{err_from_is_err_and}
use Rattle.tape.specs.Codes.{refusing, tape_refusal}
use Rattle.tape.specs.Format.{plain}
use Rattle.tape.proofs.Steps.{Came, came}
use Rattle.reference.proofs.Tallying.{none, Tallied, tallied_start, tallied_pass, tallied_take, tallied_done, tallied_failed}
use Rattle.reference.proofs.sums.tally.Goals as goal
use Rattle.reference.proofs.sums.tally.Goals.{After-with-tallies, Else-is_named}

pub loop-placed-init : goal.loop-placed-init
loop-placed-init c =
    let o = c.part-reader.ensures in
    let r = c.part-reader.result in
    let empty : none ≡ c.default-tallies.result = search rules in
    (o.bytes, subst (λ t. Tallied c.args.symbol.now c.args.part.now t r.at r.last) empty (tallied_start c.args.symbol.now c.args.part.now r.at r.last c.requires o.place o.time))

pub returns-in_err-placed-clause-gives : goal.returns-in_err-placed-clause-gives
returns-in_err-placed-clause-gives c =
    let p = err_from_is_err_and c.from_residual.result c.from_residual.ensures.1 in
    ap (refusing tape_refusal) (p.1 ∙ ap Err p.2)
    ∙ tallied_failed c.args.symbol.now c.args.part.now _ _ _ c.loop-placed.invariant.1 _ _ c.loop-placed.invariant.0 c.in_err-placed.ensures.gives

pub with-tallies-requires-clause-item_value : goal.with-tallies-requires-clause-item_value
with-tallies-requires-clause-item_value c =
    let got = c.in_ok-placed.ensures in
    let h = c.loop-placed.invariant.1 in
    (came _ c.args.part.now _ _ _ _ _ c.in-Some.placed h.inside c.loop-placed.invariant.0 c.in-Some.is got.gives got.place got.time).fields

taken : (c : After-with-tallies) → Came c.args.part.now c.loop-placed.reader.at c.loop-placed.reader.last c.next.new.self.at c.next.new.self.last c.in-Some.placed.place (plain c.in-Some.placed.record)
taken c =
    let got = c.in_ok-placed.ensures in
    came c.loop-placed.reader.tape.now c.args.part.now c.loop-placed.reader.at c.loop-placed.reader.last _ _ _ _ c.loop-placed.invariant.1.inside c.loop-placed.invariant.0 c.in-Some.is got.gives got.place got.time

pub loop-placed-preserved-then-is_named : goal.loop-placed-preserved-then-is_named
loop-placed-preserved-then-is_named c = (
  c.in_ok-placed.ensures.same ∙ c.loop-placed.invariant.0,
  tallied_take c.args.symbol.now c.args.part.now c.loop-placed.tallies _ _ c.loop-placed.invariant.1 c.with-tallies.result _ _ _ (plain c.in-Some.placed.record) (taken c) (sym c.if-is_named.ensures) c.with-tallies.ensures,
)

passed : (c : Else-is_named) → Came c.args.part.now c.loop-placed.reader.at c.loop-placed.reader.last c.next.new.self.at c.next.new.self.last c.in-Some.placed.place (plain c.in-Some.placed.record)
passed c =
    let got = c.in_ok-placed.ensures in
    came c.loop-placed.reader.tape.now c.args.part.now c.loop-placed.reader.at c.loop-placed.reader.last _ _ _ _ c.loop-placed.invariant.1.inside c.loop-placed.invariant.0 c.in-Some.is got.gives got.place got.time

pub loop-placed-preserved : goal.loop-placed-preserved
loop-placed-preserved c = (
  c.in_ok-placed.ensures.same ∙ c.loop-placed.invariant.0,
  tallied_pass c.args.symbol.now c.args.part.now c.loop-placed.tallies _ _ c.loop-placed.invariant.1 _ _ _ (plain c.in-Some.placed.record) (passed c) (sym c.if-is_named.ensures),
)

pub returns-clause-gives : goal.returns-clause-gives
returns-clause-gives c =
    tallied_done c.args.symbol.now c.args.part.now c.loop-placed.tallies _ _ c.loop-placed.invariant.1 _ _ c.loop-placed.invariant.0 c.in_default.is c.in_ok-placed.ensures.gives
