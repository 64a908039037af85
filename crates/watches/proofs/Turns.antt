-- One end after another, in order of time, leads where the move at once does.
use Rattle.std.proofs.Common.{◌≡◌, ℕ, zero, suc, ◌+◌, ◌<◌, ◌≤◌, Bool, true, false, cond, refl, ap, ◌∙◌, subst, inl, inr, arith}
use Rattle.std.proofs.lemmas.Bool.Decides.{nat_tests}
use Rattle.std.proofs.lemmas.Bool.{cases_lt}
use Rattle.watches.specs.declared.state.Side.TheVariants.{Upper, Lower}
use Rattle.watches.specs.declared.state.Watch.{Watch}
use Rattle.watches.specs.declared.state.Watch.TheVariants.{Idle, Running}
use Rattle.watches.specs.declared.state.Phase.{Phase}
use Rattle.watches.specs.declared.state.Phase.TheVariants.{Open, Halted}
use Rattle.watches.specs.declared.state.State.{State}
use Rattle.watches.specs.Words.{span}
use Rattle.watches.specs.Sound.{runs, watch_end_or, halt_end_or}
use Rattle.watches.specs.Ends.{over, reopened}
use Rattle.watches.specs.Moving.{advanced}
use Rattle.watches.specs.Order.{upper_watch, lower_watch, halt, First, Moves, rest, upper, lower, stands, end_watch, end_halt, waited, InOrder}
use Rattle.watches.proofs.Steps.{halted, left}

upper_same : (t e : ℕ) (d : State) → d.upper.watch ≡ Running e → e ≤ t → advanced (end_watch Upper e d) t ≡ advanced d t
upper_same t e d w h = grind (arith, nat_tests)

lower_same : (t e : ℕ) (d : State) → d.lower.watch ≡ Running e → e ≤ t → advanced (end_watch Lower e d) t ≡ advanced d t
lower_same t e d w h = grind (arith, nat_tests)

halt_same : (t e : ℕ) (d : State) → d.phase ≡ Halted e → e ≤ t → advanced (end_halt e d) t ≡ advanced d t
halt_same t e d w h = grind (arith, nat_tests)

not_over : (t : ℕ) (w : Watch) → ((e : ℕ) → w ≡ Running e → t + 1 ≤ e) → over t w ≡ false
not_over t Idle q = refl
not_over t (Running e) q = let h = q e refl in grind (arith, nat_tests, h)

not_reopened : (t : ℕ) (p : Phase) → ((e : ℕ) → p ≡ Halted e → t + 1 ≤ e) → reopened t p ≡ p
not_reopened t Open q = refl
not_reopened t (Halted e) q = let h = q e refl in grind (arith, nat_tests, h)

rest_same : (t : ℕ) (d : State) → First d (t + 1) → waited t d ≡ advanced d t
rest_same t d q =
    let a = not_over t d.upper.watch (λ e w. q e (upper_watch w)) in
    let b = not_over t d.lower.watch (λ e w. q e (lower_watch w)) in
    let c = not_reopened t d.phase (λ e w. q e (halt w)) in
    grind (arith, nat_tests, a, b, c)

only : {t : ℕ} {d f : State} → Moves t d f → f ≡ advanced d t
only {t} {d} {f} (rest q) = rest_same t d q
only {t} {d} {f} (upper e w h _ r) = only r ∙ upper_same t e d w h
only {t} {d} {f} (lower e w h _ r) = only r ∙ lower_same t e d w h
only {t} {d} {f} (halt e w h _ r) = only r ∙ halt_same t e d w h

run : (t : ℕ) (w : Watch) → watch_end_or (t + 1) w ≤ t → w ≡ Running (watch_end_or (t + 1) w)
run t Idle h = absurd (omega arith)
run t (Running e) h = refl

stop : (t : ℕ) (p : Phase) → halt_end_or (t + 1) p ≤ t → p ≡ Halted (halt_end_or (t + 1) p)
stop t Open h = absurd (omega arith)
stop t (Halted e) h = refl

halted_one : (b : Bool) (e : ℕ) (p : Phase) → halted (cond b (Halted e) p) ≤ 1 + halted p
halted_one true e p = omega arith
halted_one false e p = omega arith

upper_less : (e : ℕ) (d : State) → d.upper.watch ≡ Running e → left (end_watch Upper e d) < left d
upper_less e d w = let r = ap runs w in omega (arith, r, halted_one (stands Upper d.standing) (e + span) d.phase)

lower_less : (e : ℕ) (d : State) → d.lower.watch ≡ Running e → left (end_watch Lower e d) < left d
lower_less e d w = let r = ap runs w in omega (arith, r, halted_one (stands Lower d.standing) (e + span) d.phase)

halt_less : (e : ℕ) (d : State) → d.phase ≡ Halted e → left (end_halt e d) < left d
halt_less e d w = let r = ap halted w in omega (arith, r)

-- e is not after any end
bound : (t e : ℕ) (d : State) → e ≤ watch_end_or (t + 1) d.upper.watch → e ≤ watch_end_or (t + 1) d.lower.watch → e ≤ halt_end_or (t + 1) d.phase → First d e
bound t e d a b c x (upper_watch w) = let r = ap (watch_end_or (t + 1)) w in omega (arith, r)
bound t e d a b c x (lower_watch w) = let r = ap (watch_end_or (t + 1)) w in omega (arith, r)
bound t e d a b c x (halt w) = let r = ap (halt_end_or (t + 1)) w in omega (arith, r)

-- what comes next on the way to t
data Next (t : ℕ) (d : State) : Type 0 where
  none : First d (t + 1) → Next t d
  up : (e : ℕ) → d.upper.watch ≡ Running e → e ≤ t → First d e → Next t d
  low : (e : ℕ) → d.lower.watch ≡ Running e → e ≤ t → First d e → Next t d
  reopen : (e : ℕ) → d.phase ≡ Halted e → e ≤ t → First d e → Next t d

next : (t : ℕ) (d : State) → Next t d
next t d =
    let a = watch_end_or (t + 1) d.upper.watch in
    let b = watch_end_or (t + 1) d.lower.watch in
    let c = halt_end_or (t + 1) d.phase in
    let U : (a ≤ t) → a ≤ b → a ≤ c → Next t d = λ h x y. up a (run t d.upper.watch h) h (bound t a d (omega arith) x y) in
    let L : (b ≤ t) → b ≤ a → b ≤ c → Next t d = λ h x y. low b (run t d.lower.watch h) h (bound t b d x (omega arith) y) in
    let H : (c ≤ t) → c ≤ a → c ≤ b → Next t d = λ h x y. reopen c (stop t d.phase h) h (bound t c d x y (omega arith)) in
    let N : t < a → t < b → t < c → Next t d = λ x y z. none (bound t (t + 1) d (omega arith) (omega arith) (omega arith)) in
    elim (cases_lt t a) [
      | inl ta ↦ elim (cases_lt t b) [
        | inl tb ↦ elim (cases_lt t c) [ inl tc ↦ N ta tb tc | inr ct ↦ H ct (omega arith) (omega arith) ]
        | inr bt ↦ elim (cases_lt b c) [ inl bc ↦ L bt (omega arith) (omega arith) | inr cb ↦ H (omega arith) (omega arith) cb ]
      ]
      | inr at ↦ elim (cases_lt a b) [
        | inl ab ↦ elim (cases_lt a c) [ inl ac ↦ U at (omega arith) (omega arith) | inr ca ↦ H (omega arith) ca (omega arith) ]
        | inr ba ↦ elim (cases_lt b c) [ inl bc ↦ L (omega arith) ba (omega arith) | inr cb ↦ H (omega arith) (omega arith) cb ]
      ]
    ]

comes : (k t : ℕ) (d : State) → left d ≤ k → Next t d → (f : State) × Moves t d f
comes k t d s (none q) = (waited t d, rest q)
comes zero t d s (up e w h g) = absurd (let l = upper_less e d w in omega arith)
comes (suc k) t d s (up e w h g) = let l = upper_less e d w in let r = comes k t (end_watch Upper e d) (omega arith) (next t (end_watch Upper e d)) in (r.0, upper e w h g r.1)
comes zero t d s (low e w h g) = absurd (let l = lower_less e d w in omega arith)
comes (suc k) t d s (low e w h g) = let l = lower_less e d w in let r = comes k t (end_watch Lower e d) (omega arith) (next t (end_watch Lower e d)) in (r.0, lower e w h g r.1)
comes zero t d s (reopen e w h g) = absurd (let l = halt_less e d w in omega arith)
comes (suc k) t d s (reopen e w h g) = let l = halt_less e d w in let r = comes k t (end_halt e d) (omega arith) (next t (end_halt e d)) in (r.0, halt e w h g r.1)

pub in_order : (d : State) (t : ℕ) → InOrder d t
in_order d t =
    let r = comes (left d) t d (omega arith) (next t d) in
    record { comes = subst (Moves t d) (only r.1) r.1; only = λ f k. only k }
