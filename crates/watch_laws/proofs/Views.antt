-- A closed form of the day at t: each side from its newest start, phase and standing mark from the last mark.
use Rattle.std.proofs.Common.{◌≡◌, ℕ, ◌+◌, ◌≤◌, true, cond, ◌&&◌, ltb, leb, List, [], ◌∷◌, length, Some, None, Option, refl, ap, ◌∙◌, arith}
use Rattle.std.proofs.lemmas.Bool.Decides.{nat_tests}
use Rattle.watches.specs.declared.state.Side.{Side}
use Rattle.watches.specs.declared.state.Side.TheVariants.{Upper, Lower}
use Rattle.watches.specs.declared.state.Kind.{Kind}
use Rattle.watches.specs.declared.state.Kind.TheVariants.{Bid, Offered, Clear}
use Rattle.watches.specs.declared.state.AcceptedMark.{AcceptedMark}
use Rattle.watches.specs.declared.state.Watch.TheVariants.{Idle, Running}
use Rattle.watches.specs.declared.state.Phase.{Phase}
use Rattle.watches.specs.declared.state.Phase.TheVariants.{Open, Halted}
use Rattle.watches.specs.declared.state.Band.{Band}
use Rattle.watches.specs.declared.state.State.{State}
use Rattle.watches.specs.Words.{span}
use Rattle.watches.specs.Ends.{risen}
use Rattle.watches.specs.Moving.{advanced}
use Rattle.watches.specs.Marking.{started, marked}
use Rattle.watches.specs.Reading.{none_runs, watch_starts, newest}
use Rattle.watch_laws.specs.Playing.{is_open}

-- a side at t, from the starts of its watches
abbrev pub band_of : ℕ → List ℕ → Band
band_of t [] = record { level = 1; watch = Idle }
band_of t (s ∷ ss) = cond (leb (s + span) t) (record { level = 2 + length ss; watch = Idle }) (record { level = 1 + length ss; watch = Running (s + span) })

-- the phase at t, where the last mark came at u, to the side of the watches that started there
abbrev pub phase_of : ℕ → ℕ → List ℕ → Phase
phase_of u t [] = Open
phase_of u t (s ∷ ss) = cond (ltb u (s + span) && (leb (s + span) t && ltb t (s + span + span))) (Halted (s + span + span)) Open

abbrev pub stands_of : Side → ℕ → ℕ → List ℕ → Option Side
stands_of d u t [] = Some d
stands_of d u t (s ∷ ss) = cond (ltb u (s + span) && leb (s + span) t) None (Some d)

abbrev pub phase_by : ℕ → Kind → ℕ → ℕ → List AcceptedMark → Phase
phase_by n Bid u t ms = phase_of u t (watch_starts n Upper ms)
phase_by n Offered u t ms = phase_of u t (watch_starts n Lower ms)
phase_by n Clear u t ms = Open

abbrev pub stands_by : ℕ → Kind → ℕ → ℕ → List AcceptedMark → Option Side
stands_by n Bid u t ms = stands_of Upper u t (watch_starts n Upper ms)
stands_by n Offered u t ms = stands_of Lower u t (watch_starts n Lower ms)
stands_by n Clear u t ms = None

abbrev pub phase_in : ℕ → List AcceptedMark → ℕ → Phase
phase_in n [] t = Open
phase_in n (m ∷ ms) t = phase_by n m.kind m.time t (m ∷ ms)

abbrev pub stands_in : ℕ → List AcceptedMark → ℕ → Option Side
stands_in n [] t = None
stands_in n (m ∷ ms) t = stands_by n m.kind m.time t (m ∷ ms)

abbrev pub view : ℕ → List AcceptedMark → ℕ → State
view n ms t = record {
  clock = t;
  upper = band_of t (watch_starts n Upper ms);
  lower = band_of t (watch_starts n Lower ms);
  phase = phase_in n ms t;
  standing = stands_in n ms t;
}

-- a side at c, moved on to t
band_moves : (c t : ℕ) → c ≤ t → (ss : List ℕ) → risen t (band_of c ss) ≡ band_of t ss
band_moves c t h [] = refl
band_moves c t h (s ∷ ss) = grind (arith, nat_tests)

-- a day whose last mark came at u, to the upper side, and one to the lower
abbrev last_up : ℕ → ℕ → Band → List ℕ → State
last_up u c L ss = record { clock = c; upper = band_of c ss; lower = L; phase = phase_of u c ss; standing = stands_of Upper u c ss }

abbrev last_low : ℕ → ℕ → Band → List ℕ → State
last_low u c U ss = record { clock = c; upper = U; lower = band_of c ss; phase = phase_of u c ss; standing = stands_of Lower u c ss }

module _ (u c t : ℕ) (g : u ≤ c) (h : c ≤ t) where
  up_moves : (L : Band) (ss : List ℕ) → advanced (last_up u c L ss) t ≡ last_up u t (risen t L) ss
  up_moves L [] = refl
  up_moves L (s ∷ ss) = grind (arith, nat_tests)

  low_moves : (U : Band) (ss : List ℕ) → advanced (last_low u c U ss) t ≡ last_low u t (risen t U) ss
  low_moves U [] = refl
  low_moves U (s ∷ ss) = grind (arith, nat_tests)

  last_moves : (n : ℕ) (k : Kind) (ms : List AcceptedMark) → let l : List AcceptedMark = record { time = u; kind = k } ∷ ms in advanced (view n l c) t ≡ view n l t
  last_moves n Bid ms =
      let x : AcceptedMark = record { time = u; kind = Bid } in
      up_moves (band_of c (watch_starts n Lower (x ∷ ms))) (watch_starts n Upper (x ∷ ms))
      ∙ ap (λ (b : Band). last_up u t b (watch_starts n Upper (x ∷ ms))) (band_moves c t h (watch_starts n Lower (x ∷ ms)))
  last_moves n Offered ms =
      let x : AcceptedMark = record { time = u; kind = Offered } in
      low_moves (band_of c (watch_starts n Upper (x ∷ ms))) (watch_starts n Lower (x ∷ ms))
      ∙ ap (λ (b : Band). last_low u t b (watch_starts n Lower (x ∷ ms))) (band_moves c t h (watch_starts n Upper (x ∷ ms)))
  last_moves n Clear ms =
      let a = band_moves c t h (watch_starts n Upper ms) in
      let b = band_moves c t h (watch_starts n Lower ms) in
      cc

pub view_moves : (n : ℕ) (ms : List AcceptedMark) (c t : ℕ) → newest ms ≤ c → c ≤ t → advanced (view n ms c) t ≡ view n ms t
view_moves n [] c t g h = refl
view_moves n (m ∷ ms) c t g h = last_moves m.time c t g h n m.kind ms

-- the starts after a mark of the side at t
abbrev begun : ℕ → ℕ → List ℕ → List ℕ
begun n t ss = cond (none_runs ss t && ltb (length ss + 1) n) (t ∷ ss) ss

-- a side that is marked at t
band_starts : (n t : ℕ) (ss : List ℕ) → started n t (band_of t ss) (band_of t ss).watch ≡ band_of t (begun n t ss)
band_starts n t [] = grind (arith, nat_tests)
band_starts n t (s ∷ ss) = grind (arith, nat_tests)

-- a mark on a day that is open
open_phase : (p : Phase) → is_open p ≡ true → p ≡ Open
open_phase Open e = refl
open_phase (Halted x) e = cc

now_open : (t : ℕ) (ss : List ℕ) → phase_of t t ss ≡ Open
now_open t [] = refl
now_open t (s ∷ ss) = grind (arith, nat_tests)

now_stands : (d : Side) (t : ℕ) (ss : List ℕ) → stands_of d t t ss ≡ Some d
now_stands d t [] = refl
now_stands d t (s ∷ ss) = grind (arith, nat_tests)

pub view_marks : (n : ℕ) (ms : List AcceptedMark) (t : ℕ) (k : Kind) → is_open (phase_in n ms t) ≡ true → marked n (view n ms t) k ≡ view n (record { time = t; kind = k } ∷ ms) t
view_marks n ms t Bid e =
    let o = open_phase _ e in
    let a = band_starts n t (watch_starts n Upper ms) in
    let b = now_open t (begun n t (watch_starts n Upper ms)) in
    let c = now_stands Upper t (begun n t (watch_starts n Upper ms)) in
    cc
view_marks n ms t Offered e =
    let o = open_phase _ e in
    let a = band_starts n t (watch_starts n Lower ms) in
    let b = now_open t (begun n t (watch_starts n Lower ms)) in
    let c = now_stands Lower t (begun n t (watch_starts n Lower ms)) in
    cc
view_marks n ms t Clear e = let o = open_phase _ e in cc
