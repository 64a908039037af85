use Rattle.std.proofs.Common.{◌≡◌, ℕ, ◌<◌, ◌≤◌, true, leb, Some, None, sym, ap, ◌∙◌, subst, arith, rules}
use Rattle.std.proofs.lemmas.Bool.{and_parts, leb-true, cond-true}
use Rattle.watches.specs.declared.state.State.{State}
use Rattle.watches.specs.Words.{last_moment, timely}
use Rattle.watches.specs.Ends.{end_by, pass_to}
use Rattle.watches.specs.Moving.{moved, advanced}
use Rattle.watches.proofs.Steps.{left, Turn, turn, rest}
use Rattle.watches.proofs.Turns.{in_order}
use Rattle.watches.proofs.Twice.{twice}
use Rattle.watches.proofs.watches.Watches.move_to.Goals as goal

of_the_day : (c t : ℕ) → timely c t ≡ true → t ≤ last_moment
of_the_day c t e = leb-true _ _ (and_parts (leb c t) (leb t last_moment) e).1

module _ (c : goal.After-pass) where
  here : Turn c.loop-moment.self.state c.args.time c.in-Some.moment
  here =
      let s = c.loop-moment.self in
      let is : end_by s.state c.args.time ≡ Some c.in-Some.moment = search rules in
      turn s.state c.args.time c.in-Some.moment (s.within, (s.upper, (s.lower, (s.halt, tt))))
      (of_the_day _ _ (sym c.if-not-is_timely.ensures)) is

pub loop-moment-smaller : goal.loop-moment-smaller
loop-moment-smaller c = subst (λ (x : State). left x < left c.loop-moment.self.state) (sym c.pass.ensures.state) (here c).less

pub loop-moment-preserved : goal.loop-moment-preserved
loop-moment-preserved c =
    let d = c.loop-moment.self.state in
    let t = here c in
    let to : c.pass.new.self.state ≡ advanced d c.in-Some.moment = c.pass.ensures.state ∙ t.passed_to in
    let k : c.pass.new.self.state.clock ≡ c.in-Some.moment = ap (λ (x : State). x.clock) to in
    let b = t.by in
    (omega arith, ap (λ (x : State). advanced x c.args.time) to ∙ twice d c.args.time c.in-Some.moment b ∙ c.loop-moment.invariant.1)

pub returns-clause-state : goal.returns-clause-state
returns-clause-state c =
    let s = c.args.self.now.state in
    let t = c.args.time in
    let d = c.loop-moment.self.state in
    let e = sym c.if-not-is_timely.ensures in
    let none_left : end_by d t ≡ None = search rules in
    let to : pass_to t d ≡ moved s t =
    rest d t c.loop-moment.invariant.0 (of_the_day s.clock t e) none_left
    ∙ c.loop-moment.invariant.1
    ∙ sym (cond-true (timely s.clock t) (advanced s t) s e) in
    cc

pub returns-clause-order : goal.returns-clause-order
returns-clause-order c = in_order _ _

pub returns-clause-twice : goal.returns-clause-twice
returns-clause-twice c = twice c.args.self.now.state c.args.time

pub returns-then-not-is_timely-clause-order : goal.returns-then-not-is_timely-clause-order
returns-then-not-is_timely-clause-order c = in_order _ _

pub returns-then-not-is_timely-clause-twice : goal.returns-then-not-is_timely-clause-twice
returns-then-not-is_timely-clause-twice c = twice c.args.self.now.state c.args.time
