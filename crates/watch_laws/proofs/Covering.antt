-- A halt ends, and no other begins until a further mark.
use Rattle.std.proofs.Common.{◌≡◌, ℕ, ◌+◌, ◌<◌, ◌≤◌, List, [], ◌∷◌, Some, None, Option, sym, refl, ap, ◌∙◌, arith}
use Rattle.std.proofs.lemmas.Bool.Decides.{nat_tests}
use Rattle.watches.specs.declared.state.Side.TheVariants.{Upper, Lower}
use Rattle.watches.specs.declared.state.Kind.{Kind}
use Rattle.watches.specs.declared.state.Kind.TheVariants.{Bid, Offered, Clear}
use Rattle.watches.specs.declared.state.AcceptedMark.{AcceptedMark}
use Rattle.watches.specs.declared.state.Phase.{Phase}
use Rattle.watches.specs.declared.state.Phase.TheVariants.{Open, Halted}
use Rattle.watches.specs.declared.state.State.{State}
use Rattle.watches.specs.Words.{span}
use Rattle.watches.specs.Reading.{watch_starts, halt, phase_till, newest, Came}
use Rattle.watch_laws.specs.Laws.{Covers}
use Rattle.watch_laws.proofs.Views.{phase_of, phase_by, phase_in}
use Rattle.watch_laws.proofs.Bridges.{bridge}

-- what a phase that goes by the time says of a halt at t until e
record Held (f : ℕ → Phase) (t e : ℕ) : Type 0 where
  ahead : t < e
  near : e ≤ t + span
  same : (u : ℕ) → t ≤ u → u < e → f u ≡ Halted e
  over : (u : ℕ) → e ≤ u → f u ≡ Open

not_open : {A : Type 0} (e : ℕ) → Open ≡ Halted e → A
not_open e q = let z : ◌≡◌ {A = ℕ} 0 1 = cc in absurd (omega arith)

module _ (a t e : ℕ) where
  newest_held : (ss : List ℕ) → phase_of a t ss ≡ Halted e → Held (λ (u : ℕ). phase_of a u ss) t e
  newest_held [] q = not_open e q
  newest_held (s ∷ ss) q = record {
    ahead = grind (arith, nat_tests, q);
    near = grind (arith, nat_tests, q);
    same = λ u h k. grind (arith, nat_tests, q);
    over = λ u h. grind (arith, nat_tests, q);
  }

  kind_held : (n : ℕ) (k : Kind) (ms : List AcceptedMark) → phase_by n k a t ms ≡ Halted e → Held (λ (u : ℕ). phase_by n k a u ms) t e
  kind_held n Bid ms q = newest_held (watch_starts n Upper ms) q
  kind_held n Offered ms q = newest_held (watch_starts n Lower ms) q
  kind_held n Clear ms q = not_open e q

view_held : (n : ℕ) (ms : List AcceptedMark) (t e : ℕ) → phase_in n ms t ≡ Halted e → Held (λ (u : ℕ). phase_in n ms u) t e
view_held n [] t e q = not_open e q
view_held n (m ∷ ms) t e q = kind_held m.time t e n m.kind (m ∷ ms) q

till_open : (o : Option ℕ) → phase_till o ≡ Open → o ≡ None
till_open None q = refl
till_open (Some x) q = cc

till_halted : (o : Option ℕ) (e : ℕ) → phase_till o ≡ Halted e → o ≡ Some e
till_halted None e q = cc
till_halted (Some x) e q = cc

pub halts : (n : ℕ) (ms : List AcceptedMark) (t e : ℕ) → Came n ms → newest ms ≤ t → halt n ms t ≡ Some e → Covers n ms t e
halts n ms t e c g q =
    let at : (u : ℕ) → newest ms ≤ u → phase_till (halt n ms u) ≡ phase_in n ms u = λ u h. ap (λ (d : State). d.phase) (bridge n ms u c h) in
    let h = view_held n ms t e (sym (at t g) ∙ ap phase_till q) in
    let a = h.ahead in
    record {
      ahead = a;
      near = h.near;
      same = λ u i j. till_halted (halt n ms u) e (at u (omega arith) ∙ h.same u i j);
      over = λ u i. till_open (halt n ms u) (at u (omega arith) ∙ h.over u i);
    }
