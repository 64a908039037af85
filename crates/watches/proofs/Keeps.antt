-- A sound day stays sound as a moment passes.
use Rattle.std.proofs.Common.{ℕ, ◌+◌, ◌≤◌, Bool, true, false, cond, arith}
use Rattle.std.proofs.lemmas.Bool.Decides.{nat_tests}
use Rattle.watches.specs.declared.state.Watch.{Watch}
use Rattle.watches.specs.declared.state.Watch.TheVariants.{Idle, Running}
use Rattle.watches.specs.declared.state.Phase.{Phase}
use Rattle.watches.specs.declared.state.Phase.TheVariants.{Open, Halted}
use Rattle.watches.specs.declared.state.Band.{Band}
use Rattle.watches.specs.declared.state.State.{State}
use Rattle.watches.specs.Words.{span, last_moment}
use Rattle.watches.specs.Sound.{SideSound, HaltSound}
use Rattle.watches.specs.Ends.{over, risen, reopened, watched, passed}

-- what the type of a day holds of its state
abbrev pub Sound : State → Type 0
Sound d = (d.clock ≤ last_moment) × (SideSound d.clock d.upper × (SideSound d.clock d.lower × (HaltSound d.clock d.phase × Unit {0})))

module _ (c t : ℕ) (h : c ≤ t) where
  risen_sound : (l : ℕ) (w : Watch) → let b : Band = record { level = l; watch = w } in SideSound c b → SideSound t (risen t b)
  risen_sound l Idle s = (s.0, s.1, omega arith, omega arith)
  risen_sound l (Running e) s = (grind (arith, nat_tests), grind (arith, nat_tests), grind (arith, nat_tests), grind (arith, nat_tests))

  reopened_sound : (p : Phase) → HaltSound c p → HaltSound t (reopened t p)
  reopened_sound Open s = (omega arith, omega arith)
  reopened_sound (Halted e) s = (grind (arith, nat_tests), grind (arith, nat_tests))

halt_sound : (t : ℕ) (b : Bool) (p : Phase) → HaltSound t p → HaltSound t (cond b (Halted (t + span)) p)
halt_sound t true p s = (omega arith, omega arith)
halt_sound t false p s = s

pub passed_sound : (t : ℕ) (d : State) → d.clock ≤ t → t ≤ last_moment → Sound d → Sound (passed t d)
passed_sound t d h k s =
    let upper = risen_sound d.clock t h d.upper.level d.upper.watch s.1.0 in
    let lower = risen_sound d.clock t h d.lower.level d.lower.watch s.1.1.0 in
    let phase = halt_sound t (over t (watched d d.standing)) (reopened t d.phase) (reopened_sound d.clock t h d.phase s.1.1.1.0) in
    (k, (upper, (lower, (phase, tt))))
