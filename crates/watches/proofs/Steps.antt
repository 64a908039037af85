-- Going through the moments at which something ends.
use Rattle.std.proofs.Common.{◌≡◌, ℕ, ◌+◌, ◌*◌, ◌<◌, ◌≤◌, ◌⊎◌, min, true, cond, leb, Some, None, Option, sym, refl, ap, ◌∙◌, subst, inl, inr, arith}
use Rattle.std.proofs.lemmas.Bool.Decides.{nat_tests}
use Rattle.std.proofs.lemmas.Bool.{and_from, cases_lt, le-leb, leb-true, cond-true}
use Rattle.std.proofs.lemmas.Option.{none-some, same_Some, cond_some}
use Rattle.watches.specs.declared.state.Side.{Side}
use Rattle.watches.specs.declared.state.Side.TheVariants.{Upper, Lower}
use Rattle.watches.specs.declared.state.Watch.{Watch}
use Rattle.watches.specs.declared.state.Watch.TheVariants.{Idle, Running}
use Rattle.watches.specs.declared.state.Phase.{Phase}
use Rattle.watches.specs.declared.state.Phase.TheVariants.{Open, Halted}
use Rattle.watches.specs.declared.state.State.{State}
use Rattle.watches.specs.Words.{span, last_moment}
use Rattle.watches.specs.Sound.{runs, watch_end_or, halt_end_or}
use Rattle.watches.specs.Ends.{end_of, halt_end, earlier, first_end, up_to, end_by, over, risen, reopened, watched, passed, none_before, pass_to}
use Rattle.watches.specs.Moving.{phase_at, advanced}
use Rattle.watches.proofs.Keeps.{Sound}

-- the earliest end of two watches and a halt
abbrev first_of : Watch → Watch → Phase → Option ℕ
first_of u l p = earlier (earlier (end_of u) (end_of l)) (halt_end p)

before_both : (e : ℕ) (a b : Option ℕ) → none_before e (earlier a b) ≡ true → (none_before e a ≡ true) × (none_before e b ≡ true)
before_both e None b q = (refl, q)
before_both e (Some x) None q = (q, refl)
before_both e (Some x) (Some y) q = (grind (arith, nat_tests, q), grind (arith, nat_tests, q))

watched_after : (e : ℕ) (d : State) → none_before e (end_of d.upper.watch) ≡ true → none_before e (end_of d.lower.watch) ≡ true → (s : Option Side) → none_before e (end_of (watched d s)) ≡ true
watched_after e d u l None = refl
watched_after e d u l (Some Upper) = u
watched_after e d u l (Some Lower) = l

phase_same : (e : ℕ) (w : Watch) (p : Phase) → none_before e (end_of w) ≡ true → cond (over e w) (Halted (e + span)) (reopened e p) ≡ phase_at e w p
phase_same e Idle p q = refl
phase_same e (Running x) p q = grind (arith, nat_tests, q)

-- where nothing ends before a moment, passing it is moving to it
pub passes : (e : ℕ) (d : State) → none_before e (first_end d) ≡ true → passed e d ≡ advanced d e
passes e d q =
    let a = before_both e (earlier (end_of d.upper.watch) (end_of d.lower.watch)) (halt_end d.phase) q in
    let b = before_both e (end_of d.upper.watch) (end_of d.lower.watch) a.0 in
    let p = phase_same e (watched d d.standing) d.phase (watched_after e d b.0 b.1 d.standing) in
    cc

abbrev pub halted : Phase → ℕ
halted Open = 0
halted (Halted e) = 1

-- at most so many moments are left at which something ends: a watch may end in a halt, so it counts twice
abbrev pub left : State → ℕ
left d = 2 * runs d.upper.watch + 2 * runs d.lower.watch + halted d.phase

abbrev watch_over : ℕ → Watch → ℕ
watch_over e Idle = 0
watch_over e (Running x) = cond (leb x e) 1 0

abbrev halt_over : ℕ → Phase → ℕ
halt_over e Open = 0
halt_over e (Halted x) = cond (leb x e) 1 0

watch_falls : (e l : ℕ) (w : Watch) → runs (risen e (record { level = l; watch = w })).watch + watch_over e w ≡ runs w
watch_falls e l Idle = omega arith
watch_falls e l (Running x) = grind (arith, nat_tests)

halt_falls : (e : ℕ) (p : Phase) → halted (reopened e p) + halt_over e p ≡ halted p
halt_falls e Open = omega arith
halt_falls e (Halted x) = grind (arith, nat_tests)

halt_comes : (e : ℕ) (w : Watch) (p : Phase) → halted (cond (over e w) (Halted (e + span)) p) ≤ watch_over e w + halted p
halt_comes e Idle p = omega arith
halt_comes e (Running x) p = grind (arith, nat_tests)

watched_over : (e : ℕ) (d : State) (s : Option Side) → watch_over e (watched d s) ≤ watch_over e d.upper.watch + watch_over e d.lower.watch
watched_over e d None = omega arith
watched_over e d (Some Upper) = omega arith
watched_over e d (Some Lower) = omega arith

one_of : (e : ℕ) (a b : Option ℕ) → earlier a b ≡ Some e → (a ≡ Some e) ⊎ (b ≡ Some e)
one_of e None b q = inr q
one_of e (Some x) None q = inl q
one_of e (Some x) (Some y) q =
    let m = same_Some (min x y) e q in
    elim (cases_lt x y) [ inl h ↦ inl (ap Some (omega arith)) | inr h ↦ inr (ap Some (omega arith)) ]

by_then : (t e : ℕ) (f : Option ℕ) → up_to t f ≡ Some e → (e ≤ t) × (f ≡ Some e)
by_then t e None q = absurd (none-some e q)
by_then t e (Some x) q = let k = cond_some (leb x t) x e q in let h = leb-true x t k.0 in let s = k.1 in (omega arith, ap Some s)

-- the first end e lies after the clock c, and something ends there
module _ (c e : ℕ) where
  watch_hit : (w : Watch) → c < watch_end_or (c + 1) w → end_of w ≡ Some e → (c < e) × (1 ≤ watch_over e w)
  watch_hit Idle h q = absurd (none-some e q)
  watch_hit (Running x) h q = let s = same_Some x e q in (omega arith, grind (arith, nat_tests, s))

  halt_hit : (p : Phase) → c < halt_end_or (c + 1) p → halt_end p ≡ Some e → (c < e) × (1 ≤ halt_over e p)
  halt_hit Open h q = absurd (none-some e q)
  halt_hit (Halted x) h q = let s = same_Some x e q in (omega arith, grind (arith, nat_tests, s))

  hit : (u l : Watch) (p : Phase) → c < watch_end_or (c + 1) u → c < watch_end_or (c + 1) l → c < halt_end_or (c + 1) p → first_of u l p ≡ Some e
      → (c < e) × (1 ≤ watch_over e u + watch_over e l + halt_over e p)
  hit u l p a b h q = elim (one_of e (earlier (end_of u) (end_of l)) (halt_end p) q) [
    | inl i ↦ elim (one_of e (end_of u) (end_of l) i) [
      | inl j ↦ let z = watch_hit u a j in let o = z.1 in (z.0, omega arith)
      | inr j ↦ let z = watch_hit l b j in let o = z.1 in (z.0, omega arith)
    ]
    | inr i ↦ let z = halt_hit p h i in let o = z.1 in (z.0, omega arith)
  ]

passed_less : (e : ℕ) (d : State) → 1 ≤ watch_over e d.upper.watch + watch_over e d.lower.watch + halt_over e d.phase → left (passed e d) < left d
passed_less e d h =
    let u = watch_falls e d.upper.level d.upper.watch in
    let l = watch_falls e d.lower.level d.lower.watch in
    let p = halt_falls e d.phase in
    let b = halt_comes e (watched d d.standing) (reopened e d.phase) in
    let w = watched_over e d d.standing in
    omega arith

-- one turn on the way to t: to the first end e
pub record Turn (d : State) (t e : ℕ) : Type 0 where
  pub passed_to : pass_to e d ≡ advanced d e
  pub ahead : d.clock < e
  pub by : e ≤ t
  pub less : left (pass_to e d) < left d

pub turn : (d : State) (t e : ℕ) → Sound d → t ≤ last_moment → end_by d t ≡ Some e → Turn d t e
turn d t e s h q =
    let k = by_then t e (first_end d) q in
    let f : none_before e (first_end d) ≡ true = subst (λ (o : Option ℕ). none_before e o ≡ true) (sym k.1) (le-leb e e (omega arith)) in
    let i = hit d.clock e d.upper.watch d.lower.watch d.phase s.1.0.2 s.1.1.0.2 s.1.1.1.0.0 k.1 in
    let a = i.0 in
    let b = k.0 in
    let c : d.clock ≤ e = omega arith in
    let o : e ≤ last_moment = omega arith in
    let is : pass_to e d ≡ passed e d = cond-true _ _ _ (and_from _ _ (and_from _ _ (le-leb _ _ c) (le-leb _ _ o)) f) in
    record {
      passed_to = is ∙ passes e d f;
      ahead = a;
      by = b;
      less = subst (λ (x : State). left x < left d) (sym is) (passed_less e d i.1);
    }

none_by : (t : ℕ) (f : Option ℕ) → up_to t f ≡ None → none_before t f ≡ true
none_by t None q = refl
none_by t (Some x) q = grind (arith, nat_tests, q)

-- where nothing ends up to t any more, t is the next moment
pub rest : (d : State) (t : ℕ) → d.clock ≤ t → t ≤ last_moment → end_by d t ≡ None → pass_to t d ≡ advanced d t
rest d t c h q =
    let n = none_by t (first_end d) q in
    cond-true _ _ _ (and_from _ _ (and_from _ _ (le-leb _ _ c) (le-leb _ _ h)) n) ∙ passes t d n
