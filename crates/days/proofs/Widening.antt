-- Levels never fall from call to call, and so the limits only widen.
use Rattle.std.proofs.Common.{◌≡◌, ℕ, ◌≤◌, true, List, [], ◌∷◌, ◌++◌, Some, None, Option, sym, ap, ◌∙◌, subst, arith}
use Rattle.std.proofs.lemmas.Bool.{cond_both}
use Rattle.limits.specs.Meaning.{Meaning, Lawful}
use Rattle.limits.proofs.Offsets.{widens}
use Rattle.watches.specs.declared.state.AcceptedMark.{AcceptedMark}
use Rattle.watches.specs.declared.state.Side.{Side}
use Rattle.watches.specs.declared.state.Side.TheVariants.{Upper, Lower}
use Rattle.watches.specs.declared.state.State.{State}
use Rattle.watches.specs.Marking.{fresh}
use Rattle.watches.specs.Reading.{level}
use Rattle.watch_laws.proofs.All.{laws}
use Rattle.day.specs.declared.view.View.{View}
use Rattle.day.specs.Answering.{seen, inside}
use Rattle.day.specs.Form.{futures_tick}
use Rattle.day.specs.declared.mark.Mark.{Mark}
use Rattle.days.specs.declared.call.Call.{Call}
use Rattle.days.specs.Asking.{CallData, as_mark, moves, all_carried}
use Rattle.days.specs.Telling.{Told}
use Rattle.days.specs.Past.{Past, accepts, with_mark_at, after_call, past, clock, accepted, day_at, view_due}
use Rattle.days.specs.Giving.{answer, played}
use Rattle.days.specs.Reads.{Widened, ReadsSo}
use Rattle.days.proofs.Centrals.{moved_past, in_turn, central}

module _ (m : Meaning) (p : ℕ) where
  module _ (side : Side) (t : ℕ) where
    abbrev rank : List AcceptedMark → ℕ
    rank ms = level m.levels side ms t

    marked_up : (ms : List AcceptedMark) (u : ℕ) (w : Option Mark) → rank ms ≤ rank (with_mark_at m p u w ms)
    marked_up ms u None = omega arith
    marked_up ms u (Some k) =
        let x : AcceptedMark = record { time = u; kind = k.kind } in
        cond_both (accepts m p ms u k) (x ∷ ms) ms (λ l. rank ms ≤ rank l)
        (λ _. ((laws m.levels).levels side ms t).more x) (λ _. omega arith)

    called_up : (h : Past) (c : CallData) → rank h.marks ≤ rank (after_call m p h c).marks
    called_up h c =
        cond_both (moves h.clock c) (moved_past m p h c) h (λ j. rank h.marks ≤ rank j.marks)
        (λ _. marked_up h.marks c.time (as_mark c.asked)) (λ _. omega arith)

    pub never_falls : (newer older : List CallData) → rank (accepted m p older) ≤ rank (accepted m p (newer ++ older))
    never_falls [] older = omega arith
    never_falls (c ∷ newer) older =
        let a = never_falls newer older in
        let b = called_up (past m p (newer ++ older)) c in
        omega arith

  pub rises : (side : Side) (newer older : List CallData) (t u : ℕ) → t ≤ u → level m.levels side (accepted m p older) t ≤ level m.levels side (accepted m p (newer ++ older)) u
  rises side newer older t u e =
      let a = never_falls side t newer older in
      let b = ((laws m.levels).levels side (accepted m p (newer ++ older)) t).later u e in
      omega arith

  module _ (law : Lawful m) (taken : m.takes p ≡ true) where
    at_split : (newer older : List CallData) (t q : ℕ) → t ≤ clock m p (newer ++ older) → inside m p (day_at m p older t) q ≡ true
        → inside m p (day_at m p (newer ++ older) (clock m p (newer ++ older))) q ≡ true
    at_split newer older t q e i =
        let cs = newer ++ older in
        let u = clock m p cs in
        let L = (laws m.levels).levels in
        widens m law p taken futures_tick
        (level m.levels Lower (accepted m p older) t) (level m.levels Upper (accepted m p older) t)
        (level m.levels Lower (accepted m p cs) u) (level m.levels Upper (accepted m p cs) u) q
        (rises Lower newer older t u e) (rises Upper newer older t u e)
        ((L Lower (accepted m p cs) u).high law.some) ((L Upper (accepted m p cs) u).high law.some) i

    pub widened : (cs : List CallData) → Widened m p cs (view_due m p cs)
    widened cs newer older is t q e i =
        subst (λ (l : List CallData). t ≤ clock m p l → inside m p (day_at m p l (clock m p l)) q ≡ true) (sym is)
        (λ f. at_split newer older t q f i) e

    -- a fresh day that was given calls in order, and then one more
    pub run_reads : (xs : List Call) (c : CallData) (d : State) (k : ℕ) (v : View) (a : Told)
        → d ≡ played m p fresh xs → k ≡ d.clock → v ≡ seen m p d → a ≡ answer m p d c → ReadsSo m p (all_carried xs) c d k v a
    run_reads xs c d k v a is clock_is view_is told_is =
        let cs = all_carried xs in
        let there = is ∙ in_turn m p xs in
        let due_is = there ∙ (central m p cs).at_clock in
        let shown : v ≡ view_due m p cs = view_is ∙ ap (seen m p) due_is in
        record {
          day_due = due_is;
          clock_due = clock_is ∙ ap (λ (e : State). e.clock) due_is;
          view = shown;
          answer = told_is ∙ ap (λ (e : State). answer m p e c) there ∙ (central m p cs).answers c;
          mark_due = ap (λ (w : View). w.standing) shown;
          lower_level = ap (λ (w : View). w.lower_level) shown;
          upper_level = ap (λ (w : View). w.upper_level) shown;
          widened = subst (Widened m p cs) (sym shown) (widened cs);
        }
