-- The central theorem.
use Rattle.std.proofs.Common.{◌≡◌, ℕ, ◌≤◌, Bool, true, false, cond, not, ◌&&◌, leb, List, [], ◌∷◌, map, reverse, Some, None, fold, Option, sym, refl, ap, ◌∙◌, arith}
use Rattle.std.proofs.lemmas.Bool.{cond_both, and_parts, leb-true}
use Rattle.std.proofs.lemmas.List.{reverse-reverse, reverse-append}
use Rattle.std.proofs.lemmas.List.Sums.{fold_push}
use Rattle.limits.specs.Meaning.{Meaning}
use Rattle.watches.specs.declared.state.AcceptedMark.{AcceptedMark}
use Rattle.watches.specs.declared.state.State.{State}
use Rattle.watches.specs.Words as words
use Rattle.watches.specs.Reading.{halt, phase_till, read, newest, Came}
use Rattle.watches.specs.Marking.{fresh, marked}
use Rattle.watches.specs.Moving.{advanced}
use Rattle.watch_laws.proofs.Bridges.{reads}
use Rattle.day.specs.Answering.{in_halt, halted, at_edge, bounds_of}
use Rattle.day.specs.declared.mark.Mark.{Mark}
use Rattle.days.specs.declared.call.Call.{Call}
use Rattle.days.specs.Asking.{CallData, as_mark, well_formed, timely, moves, carried, all_carried}
use Rattle.days.specs.Telling.{Told, refused, after_checks, answer_at}
use Rattle.days.specs.Past.{Past, accepts, with_mark_at, after_call, past, clock, day_at, due}
use Rattle.days.specs.Giving.{with_any_mark, step, answer, played, after}
use Rattle.days.specs.Central.{Central, InTurn}

-- what is read of the one that is chosen
choose : {A : Type 0} (b : Bool) (D E : State) (x y : A) (G : A → State) → (b ≡ true → D ≡ G x) → E ≡ G y → cond b D E ≡ G (cond b x y)
choose true D E x y G f g = f refl
choose false D E x y G f g = g

-- both tests at once
joint : (b l : Bool) (D E : State) → cond b (cond l D E) E ≡ cond (b && l) D E
joint true l D E = refl
joint false l D E = refl

same_timed : (b l : Bool) (x y z w : Told) → (l ≡ true → x ≡ y) → cond b (cond l x z) w ≡ cond b (cond l y z) w
same_timed false l x y z w f = refl
same_timed true true x y z w f = f refl
same_timed true false x y z w f = refl

no_halt : (o : Option ℕ) → not (in_halt (phase_till o)) ≡ true → o ≡ None
no_halt None e = refl
no_halt (Some x) e = cc

module _ (m : Meaning) (p : ℕ) where
  -- the marks of a past came about by acceptance, and none is timed after its clock
  abbrev pub Kept : Past → Type 0
  Kept h = Came m.levels h.marks × (newest h.marks ≤ h.clock)

  abbrev shown : Past → State
  shown h = read m.levels h.marks h.clock

  module _ (ms : List AcceptedMark) (t : ℕ) (c : Came m.levels ms) (g : newest ms ≤ t) where
    -- a mark that is accepted comes where no halt runs
    taken_open : (k : Mark) → accepts m p ms t k ≡ true → halt m.levels ms t ≡ None
    taken_open k y =
        let d = read m.levels ms t in
        no_halt (halt m.levels ms t) (and_parts (not (halted d)) (at_edge k.kind k.price (bounds_of m p d)) y).0

    -- a mark, or none, at t
    joins : (w : Option Mark) → with_any_mark m p (read m.levels ms t) w ≡ read m.levels (with_mark_at m p t w ms) t
    joins None = refl
    joins (Some k) =
        let n = m.levels in
        choose (accepts m p ms t k) (marked n (read n ms t) k.kind) (read n ms t)
        (record { time = t; kind = k.kind } ∷ ms) ms (λ l. read n l t)
        (λ y. (reads n).marks ms t k.kind c g (taken_open k y)) refl

    joined_came : (w : Option Mark) → Came m.levels (with_mark_at m p t w ms)
    joined_came None = c
    joined_came (Some k) =
        cond_both (accepts m p ms t k) (record { time = t; kind = k.kind } ∷ ms) ms (Came m.levels)
        (λ y. (c, g, taken_open k y)) (λ _. c)

    joined_newest : (w : Option Mark) → newest (with_mark_at m p t w ms) ≤ t
    joined_newest None = g
    joined_newest (Some k) =
        cond_both (accepts m p ms t k) (record { time = t; kind = k.kind } ∷ ms) ms (λ l. newest l ≤ t)
        (λ _. omega arith) (λ _. g)

  not_late : (k : ℕ) (c : CallData) → timely k c ≡ true → k ≤ c.time
  not_late k c e = leb-true _ _ (and_parts (leb k c.time) (leb c.time words.last_moment) e).0

  pub not_before : (k : ℕ) (c : CallData) → moves k c ≡ true → k ≤ c.time
  not_before k c e = not_late k c (and_parts (well_formed c.asked) (timely k c) e).1

  abbrev pub moved_past : Past → CallData → Past
  moved_past h c = record { clock = c.time; marks = with_mark_at m p c.time (as_mark c.asked) h.marks }

  kept : (h : Past) (c : CallData) → Kept h → Kept (after_call m p h c)
  kept h c g =
      cond_both (moves h.clock c) (moved_past h c) h Kept
      (λ e. let b = not_before h.clock c e in let a = g.1 in let l : newest h.marks ≤ c.time = omega arith in
      (joined_came h.marks c.time g.0 l (as_mark c.asked), joined_newest h.marks c.time g.0 l (as_mark c.asked)))
      (λ _. g)

  one : (h : Past) (c : CallData) → Kept h → step m p (shown h) c ≡ shown (after_call m p h c)
  one h c g =
      joint (well_formed c.asked) (timely h.clock c) (with_any_mark m p (advanced (shown h) c.time) (as_mark c.asked)) (shown h)
      ∙ choose (moves h.clock c) (with_any_mark m p (advanced (shown h) c.time) (as_mark c.asked)) (shown h) (moved_past h c) h shown
      (λ e. let b = not_before h.clock c e in let a = g.1 in let l : newest h.marks ≤ c.time = omega arith in
      ap (λ (d : State). with_any_mark m p d (as_mark c.asked)) ((reads m.levels).moves h.marks h.clock c.time g.0 a b)
      ∙ joins h.marks c.time g.0 l (as_mark c.asked))
      refl

  pub all_kept : (cs : List CallData) → Kept (past m p cs)
  all_kept [] = (tt, omega arith)
  all_kept (c ∷ cs) = kept (past m p cs) c (all_kept cs)

  all_shown : (cs : List CallData) → after m p cs ≡ shown (past m p cs)
  all_shown [] = refl
  all_shown (c ∷ cs) = ap (λ (d : State). step m p d c) (all_shown cs) ∙ one (past m p cs) c (all_kept cs)

  moves_on : (cs : List CallData) (t : ℕ) → clock m p cs ≤ t → advanced (after m p cs) t ≡ day_at m p cs t
  moves_on cs t b =
      let h = past m p cs in
      let k = all_kept cs in
      ap (λ (d : State). advanced d t) (all_shown cs) ∙ (reads m.levels).moves h.marks h.clock t k.0 k.1 b

  -- where a call is not timely, what the day would answer does not matter
  same_checked : (k : ℕ) (c : CallData) (a b : Told) → (k ≤ c.time → a ≡ b) → after_checks k c a ≡ after_checks k c b
  same_checked k c a b f =
      same_timed (well_formed c.asked) (timely k c) a b (refused 20) (refused 21) (λ e. f (not_late k c e))

  all_due : (cs : List CallData) (c : CallData) → answer m p (after m p cs) c ≡ due m p cs c
  all_due cs c =
      ap (λ (d : State). after_checks d.clock c (answer_at m p (advanced (after m p cs) c.time) c.asked)) (all_shown cs)
      ∙ same_checked (clock m p cs) c _ _ (λ b. ap (λ (d : State). answer_at m p d c.asked) (moves_on cs c.time b))

  turned : (cs : List CallData) → fold (step m p) fresh (reverse cs) ≡ after m p cs
  turned [] = refl
  turned (c ∷ cs) =
      ap (λ (l : List CallData). fold (step m p) fresh l) (reverse-append (c ∷ []) cs)
      ∙ fold_push (step m p) fresh (reverse cs) c ∙ ap (λ (d : State). step m p d c) (turned cs)

  carry : (d : State) (xs : List Call) → played m p d xs ≡ fold (step m p) d (map carried xs)
  carry d [] = refl
  carry d (x ∷ xs) = carry (step m p d (carried x)) xs

  pub in_turn : InTurn m p
  in_turn xs =
      carry fresh xs ∙ ap (λ (l : List CallData). fold (step m p) fresh l) (sym (reverse-reverse (map carried xs)))
      ∙ turned (all_carried xs)

  pub central : (cs : List CallData) → Central m p cs
  central cs = record { at_clock = all_shown cs; later = moves_on cs; answers = all_due cs }
