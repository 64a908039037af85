-- A move in two parts is a move.
use Rattle.std.proofs.Common.{◌≡◌, ℕ, ◌+◌, ◌≤◌, cond, Some, None, Option, sym, refl, ap, ◌∙◌, arith}
use Rattle.std.proofs.lemmas.Bool.Decides.{nat_tests}
use Rattle.std.proofs.lemmas.Bool.{cond_both, cond-true}
use Rattle.watches.specs.declared.state.Side.{Side}
use Rattle.watches.specs.declared.state.Side.TheVariants.{Upper, Lower}
use Rattle.watches.specs.declared.state.Watch.{Watch}
use Rattle.watches.specs.declared.state.Watch.TheVariants.{Idle, Running}
use Rattle.watches.specs.declared.state.Phase.{Phase}
use Rattle.watches.specs.declared.state.Phase.TheVariants.{Open, Halted}
use Rattle.watches.specs.declared.state.Band.{Band}
use Rattle.watches.specs.declared.state.State.{State}
use Rattle.watches.specs.Words.{span}
use Rattle.watches.specs.Ends.{over, risen, reopened, watched}
use Rattle.watches.specs.Moving.{phase_at, standing_at, advanced, Twice}

-- a watch at t, once it may have ended
abbrev left : ℕ → Watch → Watch
left t w = cond (over t w) Idle w

module _ (t u : ℕ) (h : t ≤ u) where
  band_twice : (l : ℕ) (w : Watch) → let b : Band = record { level = l; watch = w } in risen u (risen t b) ≡ risen u b
  band_twice l Idle = refl
  band_twice l (Running e) = grind (arith, nat_tests)

  reopened_twice : (p : Phase) → reopened u (reopened t p) ≡ reopened u p
  reopened_twice Open = refl
  reopened_twice (Halted e) = grind (arith, nat_tests)

  phase_twice : (w : Watch) (p : Phase) → phase_at u (left t w) (phase_at t w p) ≡ phase_at u w p
  phase_twice Idle p = reopened_twice p
  phase_twice (Running e) p = let q = reopened_twice p in let r = reopened_twice (Halted (e + span)) in grind (arith, nat_tests, q, r)

  standing_twice : (w : Watch) (s : Option Side) → standing_at u (left t w) (standing_at t w s) ≡ standing_at u w s
  standing_twice Idle s = refl
  standing_twice (Running e) s = grind (arith, nat_tests)

risen_left : (t l : ℕ) (w : Watch) → (risen t (record { level = l; watch = w })).watch ≡ left t w
risen_left t l Idle = refl
risen_left t l (Running e) = grind (arith, nat_tests)

-- the watch of the standing mark after a move
watched_left : (t : ℕ) (d : State) (s : Option Side) → watched (advanced d t) (standing_at t (watched d s) s) ≡ left t (watched d s)
watched_left t d None = refl
watched_left t d (Some Upper) =
    cond_both (over t d.upper.watch) None (Some Upper) (λ (s : Option Side). watched (advanced d t) s ≡ left t d.upper.watch)
    (λ e. sym (cond-true _ _ _ e))
    (λ _. risen_left t d.upper.level d.upper.watch)
watched_left t d (Some Lower) =
    cond_both (over t d.lower.watch) None (Some Lower) (λ (s : Option Side). watched (advanced d t) s ≡ left t d.lower.watch)
    (λ e. sym (cond-true _ _ _ e))
    (λ _. risen_left t d.lower.level d.lower.watch)

pub twice : (d : State) (u : ℕ) → Twice d u
twice d u t h =
    let w = watched d d.standing in
    let wl = watched_left t d d.standing in
    let up = band_twice t u h d.upper.level d.upper.watch in
    let lo = band_twice t u h d.lower.level d.lower.watch in
    let ph = ap (λ (x : Watch). phase_at u x (phase_at t w d.phase)) wl ∙ phase_twice t u h w d.phase in
    let st = ap (λ (x : Watch). standing_at u x (standing_at t w d.standing)) wl ∙ standing_twice t u h w d.standing in
    cc
