use Rattle.std.proofs.Common.{◌≡◌, ℕ, Bool, true, false, cond, eqb, List, get_or, drop, Ok, Err, Result, refl, ap, ◌∙◌}
use Rattle.std.proofs.lemmas.List.{take_rest}
use Rattle.std.proofs.lemmas.Result.{err_from_is_err_and}
use Rattle.tape.specs.declared.fault.Flaw.{Flaw}
use Rattle.tape.specs.declared.fault.Flaw.TheVariants.{Kind}
use Rattle.tape.specs.declared.record.RecordKind.{RecordKind}
use Rattle.tape.specs.declared.record.RecordKind.TheVariants.{Trade, Quote}
use Rattle.tape.specs.Codes.{flaw_number}
use Rattle.tape.specs.Format.{Plain, trade, quote, as_kind, kind_numbered}
use Rattle.tape.specs.Reading.{be4, plainly, fielded, judge, decode}
use Rattle.tape.proofs.record.decode_body.Goals as goal

-- what a kind that was looked up makes of the numbers and the symbol
abbrev by_kind : ℕ → ℕ → ℕ → List ℕ → Result RecordKind Flaw → Result Plain ℕ
by_kind t a b s (Ok k) = fielded (as_kind k t a b s)
by_kind t a b s (Err e) = Err (flaw_number e)

looked_up : (t a b : ℕ) (s : List ℕ) (c d : Bool) → by_kind t a b s (cond c (Ok Trade) (cond d (Ok Quote) (Err Kind))) ≡ cond c (fielded (trade t a b s)) (cond d (fielded (quote t a b s)) (Err 3))
looked_up t a b s true d = refl
looked_up t a b s false true = refl
looked_up t a b s false false = refl

judge_kind : (n t a b : ℕ) (s : List ℕ) → by_kind t a b s (kind_numbered n) ≡ judge n t a b s
judge_kind n t a b s = looked_up t a b s (eqb n 1) (eqb n 2)

pub returns-in_err-try_from : goal.returns-in_err-try_from
unfolding decode
returns-in_err-try_from c =
    let xs = c.args.body.now in
    let p = err_from_is_err_and c.from_residual.result c.from_residual.ensures.1 in
    ap plainly (p.1 ∙ ap Err p.2) ∙ ap (by_kind (be4 xs 1) (be4 xs 5) (be4 xs 9) (drop 13 xs)) c.in_err-try_from.ensures
    ∙ judge_kind (get_or xs 0 0) (be4 xs 1) (be4 xs 5) (be4 xs 9) (drop 13 xs)

pub returns : goal.returns
unfolding decode
returns c =
    let xs = c.args.body.now in
    let rest = take_rest xs 13 in
    let j = c.judged.ensures in
    let t = c.from_be_bytes.ensures in
    let a = c.from_be_bytes-2.ensures in
    let b = c.from_be_bytes-3.ensures in
    let kind = ap (by_kind (be4 xs 1) (be4 xs 5) (be4 xs 9) (drop 13 xs)) c.in_ok-try_from.ensures in
    let is = judge_kind (get_or xs 0 0) (be4 xs 1) (be4 xs 5) (be4 xs 9) (drop 13 xs) in
    cc
