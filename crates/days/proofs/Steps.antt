-- The answers of a day, told.
use Rattle.std.proofs.Common.{◌≡◌, ℕ, Bool, true, false, cond, Err, Result, refl}
use Rattle.limits.specs.Meaning.{Meaning}
use Rattle.watches.specs.declared.state.State.{State}
use Rattle.days.specs.Asking.{CallData}
use Rattle.days.specs.Telling.{refused, said}
use Rattle.days.specs.Giving.{answer}

pub said_checks : (formed timely : Bool) (a : Result (Unit {0}) ℕ)
    → said (cond formed (cond timely a (Err 20)) (Err 21)) ≡ cond formed (cond timely (said a) (refused 20)) (refused 21)
said_checks true true a = refl
said_checks true false a = refl
said_checks false timely a = refl

-- equal days answer alike
pub same_answer : {R : Type 0} (f : R → Meaning) {r s : R} {p q : ℕ} {d e : State} (c : CallData) → r ≡ s → p ≡ q → d ≡ e → answer (f r) p d c ≡ answer (f s) q e c
same_answer f c x y z = cc
