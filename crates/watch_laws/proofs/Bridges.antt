-- The reading of accepted marks, and the closed form.
use Rattle.std.proofs.Common.{◌≡◌, ℕ, ◌+◌, ◌≤◌, Bool, true, false, cond, ◌&&◌, ◌||◌, ltb, leb, List, [], ◌∷◌, length, Some, None, Option, sym, refl, ap, ◌∙◌, arith}
use Rattle.std.proofs.lemmas.Bool.Decides.{nat_tests}
use Rattle.std.proofs.Math.Bool.{or-false}
use Rattle.std.proofs.lemmas.Bool.{cond_both, and_parts, leb-true}
use Rattle.watches.specs.declared.state.Side.{Side}
use Rattle.watches.specs.declared.state.Side.TheVariants.{Upper, Lower}
use Rattle.watches.specs.declared.state.Kind.{Kind}
use Rattle.watches.specs.declared.state.Kind.TheVariants.{Bid, Offered, Clear}
use Rattle.watches.specs.declared.state.AcceptedMark.{AcceptedMark}
use Rattle.watches.specs.declared.state.Band.{Band}
use Rattle.watches.specs.declared.state.State.{State}
use Rattle.watches.specs.Words.{span, of, side_of}
use Rattle.watches.specs.Moving.{advanced}
use Rattle.watches.specs.Marking.{marked}
use Rattle.watches.specs.Reading.{none_runs, with_any_mark, watch_starts, ended, watch_end, last_mark_of, halt_of, or_else, halt, halt_began, watch_till, phase_till, read, newest, Came}
use Rattle.watch_laws.specs.Laws.{Reads}
use Rattle.watch_laws.specs.Playing.{is_open}
use Rattle.watch_laws.proofs.Views.{band_of, phase_of, stands_of, phase_by, stands_by, phase_in, view, view_moves, view_marks}

-- the watches that started at these moments have all ended by t, each before the next began
abbrev pub Over : List ℕ → ℕ → Type 0
Over [] t = Unit {0}
Over (s ∷ ss) t = (s + span ≤ t) × Over ss s

over_later : (ss : List ℕ) (t u : ℕ) → t ≤ u → Over ss t → Over ss u
over_later [] t u h o = tt
over_later (s ∷ ss) t u h o = let a = o.0 in (omega arith, o.1)

-- all but the newest have ended by its start, which is not after t
abbrev pub Apart : List ℕ → ℕ → Type 0
Apart [] t = Unit {0}
Apart (s ∷ ss) t = (s ≤ t) × Over ss s

apart_later : (ss : List ℕ) (t u : ℕ) → t ≤ u → Apart ss t → Apart ss u
apart_later [] t u h o = tt
apart_later (s ∷ ss) t u h o = let a = o.0 in (omega arith, o.1)

over_from : (ss : List ℕ) (t : ℕ) → Apart ss t → none_runs ss t ≡ true → Over ss t
over_from [] t a e = tt
over_from (s ∷ ss) t a e = (leb-true _ _ e, a.1)

with_apart : (n : ℕ) (side : Side) (m : AcceptedMark) (ss : List ℕ) → Apart ss m.time → Apart (with_any_mark n side m ss) m.time
with_apart n side m ss a =
    cond_both (of side m.kind && none_runs ss m.time && ltb (length ss + 1) n) (m.time ∷ ss) ss (λ l. Apart l m.time)
    (λ e. (omega arith, over_from ss m.time a (and_parts _ _ (and_parts _ _ e).0).1))
    (λ _. a)

-- the watches of a side never overlap, and are in order of time
pub starts_apart : (n : ℕ) (side : Side) (ms : List AcceptedMark) → Came n ms → Apart (watch_starts n side ms) (newest ms)
starts_apart n side [] c = tt
starts_apart n side (m ∷ ms) c =
    with_apart n side m (watch_starts n side ms) (apart_later (watch_starts n side ms) (newest ms) m.time c.1 (starts_apart n side ms c.0))

-- levels and watches
all_ended : (ss : List ℕ) (t : ℕ) → Over ss t → ended ss t ≡ length ss
all_ended [] t o = refl
all_ended (s ∷ ss) t o =
    let a = o.0 in
    let r = all_ended ss t (over_later ss s t (omega arith) o.1) in
    grind (arith, nat_tests, r)

none_watched : (ss : List ℕ) (t : ℕ) → Over ss t → watch_end ss t ≡ None
none_watched [] t o = refl
none_watched (s ∷ ss) t o =
    let a = o.0 in
    let r = none_watched ss t (over_later ss s t (omega arith) o.1) in
    grind (arith, nat_tests, r)

pub band_read : (ss : List ℕ) (t : ℕ) → Apart ss t → let b : Band = record { level = 1 + ended ss t; watch = watch_till (watch_end ss t) } in b ≡ band_of t ss
band_read [] t a = refl
band_read (s ∷ ss) t a =
    let h = a.0 in
    let o = over_later ss s t h a.1 in
    let l = all_ended ss t o in
    let w = none_watched ss t o in
    grind (arith, nat_tests, l, w)

-- the halt of the newest watch, where the last mark, at u, is of its side, and whether it has begun
abbrev its_halt : ℕ → ℕ → List ℕ → Option ℕ
its_halt u t [] = None
its_halt u t (s ∷ ss) = cond (ltb u (s + span) && (leb (s + span) t && ltb t (s + span + span))) (Some (s + span + span)) None

abbrev its_began : ℕ → ℕ → List ℕ → Bool
its_began u t [] = false
its_began u t (s ∷ ss) = ltb u (s + span) && leb (s + span) t

-- b says that the last mark is of the side
abbrev newest_halt : Bool → ℕ → ℕ → List ℕ → Option ℕ
newest_halt b u t ss = cond b (its_halt u t ss) None

abbrev newest_began : Bool → ℕ → ℕ → List ℕ → Bool
newest_began b u t ss = b && its_began u t ss

none_parts : (b : Bool) (x : ℕ) (o : Option ℕ) → cond b (Some x) o ≡ None → (b ≡ false) × (o ≡ None)
none_parts true x o e = (cc, cc)
none_parts false x o e = (refl, e)

else_parts : (x y : Option ℕ) → or_else x y ≡ None → (x ≡ None) × (y ≡ None)
else_parts None y e = (refl, e)
else_parts (Some x) y e = (cc, cc)

module _ (side : Side) (m : AcceptedMark) (ms : List AcceptedMark) where
  -- a mark that starts a watch leaves no halt at its moment
  no_halt_yet : (n : ℕ) (ss : List ℕ) → halt_of side ms ss m.time ≡ None → halt_of side ms (with_any_mark n side m ss) m.time ≡ None
  no_halt_yet n ss e =
      cond_both (of side m.kind && none_runs ss m.time && ltb (length ss + 1) n) (m.time ∷ ss) ss (λ l. halt_of side ms l m.time ≡ None)
      (λ _. grind (arith, nat_tests, e)) (λ _. e)

  module _ (t : ℕ) (h : m.time ≤ t) where
    -- where no halt of ended watches ran at the mark, none runs later
    halts_over : (ss : List ℕ) → Over ss m.time → halt_of side ms ss m.time ≡ None → halt_of side (m ∷ ms) ss t ≡ None
    halts_over [] o e = refl
    halts_over (s ∷ ss) o e =
        let a = o.0 in
        let p = none_parts (leb (s + span) m.time && ltb m.time (s + span + span) && last_mark_of side ms (s + span)) (s + span + span) (halt_of side ms ss m.time) e in
        let q = p.0 in
        let r = halts_over ss (over_later ss s m.time (omega arith) o.1) p.1 in
        grind (arith, nat_tests, q, r)

    -- only the newest watch of the mark's side may end in a halt from now on
    halt_read : (ss : List ℕ) → Apart ss m.time → halt_of side ms ss m.time ≡ None → halt_of side (m ∷ ms) ss t ≡ newest_halt (of side m.kind) m.time t ss
    halt_read [] a e = grind arith
    halt_read (s ∷ ss) a e =
        let k = a.0 in
        let p = none_parts (leb (s + span) m.time && ltb m.time (s + span + span) && last_mark_of side ms (s + span)) (s + span + span) (halt_of side ms ss m.time) e in
        let q = p.0 in
        let r = halts_over ss (over_later ss s m.time (omega arith) a.1) p.1 in
        grind (arith, nat_tests, q, r)

    -- no halt of ended watches began after the mark
    none_began : (ss : List ℕ) → Over ss m.time → halt_began side (m ∷ ms) ss m.time t ≡ false
    none_began [] o = refl
    none_began (s ∷ ss) o =
        let a = o.0 in
        let r = none_began ss (over_later ss s m.time (omega arith) o.1) in
        grind (arith, nat_tests, r)

    began_read : (ss : List ℕ) → Apart ss m.time → halt_began side (m ∷ ms) ss m.time t ≡ newest_began (of side m.kind) m.time t ss
    began_read [] a = grind arith
    began_read (s ∷ ss) a =
        let k = a.0 in
        let r = none_began ss (over_later ss s m.time (omega arith) a.1) in
        grind (arith, nat_tests, r)

its_phase : (u t : ℕ) (ss : List ℕ) → phase_till (its_halt u t ss) ≡ phase_of u t ss
its_phase u t [] = refl
its_phase u t (s ∷ ss) = grind (arith, nat_tests)

its_standing : (d : Side) (u t : ℕ) (ss : List ℕ) → cond (its_began u t ss) None (Some d) ≡ stands_of d u t ss
its_standing d u t [] = refl
its_standing d u t (s ∷ ss) = refl

else_none : (x : Option ℕ) → or_else x None ≡ x
else_none None = refl
else_none (Some x) = refl

module _ (n u t : ℕ) (l : List AcceptedMark) where
  abbrev U : List ℕ
  U = watch_starts n Upper l

  abbrev L : List ℕ
  L = watch_starts n Lower l

  phase_kinds : (k : Kind) → phase_till (or_else (newest_halt (of Upper k) u t U) (newest_halt (of Lower k) u t L)) ≡ phase_by n k u t l
  phase_kinds Bid = ap phase_till (else_none (its_halt u t U)) ∙ its_phase u t U
  phase_kinds Offered = its_phase u t L
  phase_kinds Clear = refl

  stands_kinds : (k : Kind) → cond (newest_began (of Upper k) u t U || newest_began (of Lower k) u t L) None (side_of k) ≡ stands_by n k u t l
  stands_kinds Bid = ap (λ (b : Bool). cond b None (Some Upper)) (or-false (its_began u t U)) ∙ its_standing Upper u t U
  stands_kinds Offered = its_standing Lower u t L
  stands_kinds Clear = refl

-- the reading is the closed form
pub bridge : (n : ℕ) (ms : List AcceptedMark) (t : ℕ) → Came n ms → newest ms ≤ t → read n ms t ≡ view n ms t
bridge n [] t c g = refl
bridge n (m ∷ ms) t c g =
    let u = m.time in
    let l : List AcceptedMark = m ∷ ms in
    let S = watch_starts n Upper l in
    let R = watch_starts n Lower l in
    let a = starts_apart n Upper l c in
    let b = starts_apart n Lower l c in
    let o = else_parts (halt_of Upper ms (watch_starts n Upper ms) u) (halt_of Lower ms (watch_starts n Lower ms) u) c.2 in
    let hu = halt_read Upper m ms t g S a (no_halt_yet Upper m ms n (watch_starts n Upper ms) o.0) in
    let hl = halt_read Lower m ms t g R b (no_halt_yet Lower m ms n (watch_starts n Lower ms) o.1) in
    let bu = began_read Upper m ms t g S a in
    let bl = began_read Lower m ms t g R b in
    let up = band_read S t (apart_later S u t g a) in
    let low = band_read R t (apart_later R u t g b) in
    let phase = phase_kinds n u t l m.kind in
    let stands = stands_kinds n u t l m.kind in
    cc

open_none : (o : Option ℕ) → o ≡ None → is_open (phase_till o) ≡ true
open_none None e = refl
open_none (Some x) e = cc

pub reads : (n : ℕ) → Reads n
reads n = record {
  starts = refl;
  moves = λ ms c t a g h.
      ap (λ (d : State). advanced d t) (bridge n ms c a g) ∙ view_moves n ms c t g h ∙ sym (bridge n ms t a (omega arith));
  marks = λ ms t k a g e.
      let b = bridge n ms t a g in
      let x : AcceptedMark = record { time = t; kind = k } in
      let o : is_open (phase_in n ms t) ≡ true = ap (λ (d : State). is_open d.phase) (sym b) ∙ open_none (halt n ms t) e in
      ap (λ (d : State). marked n d k) b ∙ view_marks n ms t k o ∙ sym (bridge n (x ∷ ms) t (a, g, e) (omega arith));
}
