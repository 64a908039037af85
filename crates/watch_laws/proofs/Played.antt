-- A day played mark by mark is what the marks read.
use Rattle.std.proofs.Common.{◌≡◌, ℕ, ◌+◌, ◌<◌, ◌≤◌, Bool, true, false, ◌&&◌, leb, List, [], ◌∷◌, reverse, length, get_or, take, drop, Some, None, Option, is_some, IfSome, sym, refl, ap, ◌∙◌, subst, add-one, arith, take_all, drop-cons}
use Rattle.std.proofs.lemmas.List.{reverse-append, take_more, drop_all}
use Rattle.std.proofs.lemmas.Bool.{and_parts, and_from, and_left, and_right, leb-true, cond-true, cond-false}
use Rattle.watches.specs.declared.state.AcceptedMark.{AcceptedMark}
use Rattle.watches.specs.declared.state.State.{State}
use Rattle.watches.specs.Words.{last_moment, timely}
use Rattle.watches.specs.Moving.{moved}
use Rattle.watches.specs.Marking.{marked}
use Rattle.watches.specs.Reading.{halt, phase_till, read, newest, Came}
use Rattle.watch_laws.specs.Playing.{is_open, takes_at, after_mark, none, acceptable, all_acceptable, reading}
use Rattle.watch_laws.proofs.Bridges.{reads}

-- the day right after the marks, the newest first
abbrev pub played : ℕ → List AcceptedMark → State
played n ms = read n ms (newest ms)

none_open : (o : Option ℕ) → is_open (phase_till o) ≡ none o
none_open None = refl
none_open (Some e) = refl

is_none : (o : Option ℕ) → none o ≡ true → o ≡ None
is_none None q = refl
is_none (Some e) q = cc

pub not_before : (c t : ℕ) → timely c t ≡ true → c ≤ t
not_before c t e = leb-true _ _ (and_parts (leb c t) (leb t last_moment) e).0

-- where the first test fails, the second does not matter
same_and : (a x y : Bool) → (a ≡ true → x ≡ y) → (a && x) ≡ (a && y)
same_and true x y f = f refl
same_and false x y f = refl

module _ (n : ℕ) (ms : List AcceptedMark) (c : Came n ms) where
  pub taken : (m : AcceptedMark) → takes_at (played n ms) m ≡ acceptable n ms m
  taken m =
      same_and (timely (newest ms) m.time) _ _
      (λ e. ap (λ (d : State). is_open d.phase) ((reads n).moves ms (newest ms) m.time c (omega arith) (not_before _ _ e)) ∙ none_open (halt n ms m.time))

  pub came : (m : AcceptedMark) → acceptable n ms m ≡ true → Came n (m ∷ ms)
  came m e =
      let p = and_parts (timely (newest ms) m.time) (none (halt n ms m.time)) e in
      (c, not_before _ _ p.0, is_none _ p.1)

  pub after : (m : AcceptedMark) → acceptable n ms m ≡ true → after_mark n (played n ms) m ≡ played n (m ∷ ms)
  after m e =
      let d = came m e in
      cond-true _ _ _ (taken m ∙ e)
      ∙ ap (λ (x : State). marked n x m.kind) ((reads n).moves ms (newest ms) m.time c (omega arith) d.1)
      ∙ (reads n).marks ms m.time m.kind c d.1 d.2

module _ (xs : List AcceptedMark) (i : ℕ) (x : AcceptedMark) (h : i < length xs) where
  pub one_more : reverse (take (i + 1) xs) ≡ get_or xs i x ∷ reverse (take i xs)
  one_more = ap reverse (take_more xs i x h) ∙ reverse-append (take i xs) (get_or xs i x ∷ [])

  pub one_less : (n : ℕ) (ms : List AcceptedMark) → all_acceptable n ms (drop i xs) ≡ (acceptable n ms (get_or xs i x) && all_acceptable n (get_or xs i x ∷ ms) (drop (i + 1) xs))
  one_less n ms = ap (all_acceptable n ms) (drop-cons xs i x h) ∙ rw add-one

module _ (n : ℕ) (xs : List AcceptedMark) (t : ℕ) where
  pub not_all : all_acceptable n [] xs ≡ false → reading n xs t ≡ None
  not_all q = cond-false _ _ _ (and_left _ _ q)

  pub not_timely : timely (newest (reverse xs)) t ≡ false → reading n xs t ≡ None
  not_timely q = cond-false _ _ _ (and_right _ _ q)

  pub all_and_timely : all_acceptable n [] xs ≡ true → timely (newest (reverse xs)) t ≡ true → reading n xs t ≡ Some (read n (reverse xs) t)
  all_and_timely p q = cond-true _ _ _ (and_from _ _ p q)

-- what holds of the day after the marks ms, the newest first, where xs are to come of zs in all
pub record Sofar (n : ℕ) (d : State) (ms xs zs : List AcceptedMark) : Type 0 where
  pub came : Came n ms
  pub is : d ≡ played n ms
  pub rest : all_acceptable n ms xs ≡ all_acceptable n [] zs

module _ (n : ℕ) (d : State) (i : ℕ) (xs : List AcceptedMark) (x : AcceptedMark) (h : i < length xs) (s : Sofar n d (reverse (take i xs)) (drop i xs) xs) where
  abbrev before : List AcceptedMark
  before = reverse (take i xs)

  pub same_test : (m : AcceptedMark) → takes_at d m ≡ acceptable n before m
  same_test m = ap (λ (y : State). takes_at y m) s.is ∙ taken n before s.came m

  pub goes_on : takes_at d (get_or xs i x) ≡ true → Sofar n (after_mark n d (get_or xs i x)) (reverse (take (i + 1) xs)) (drop (i + 1) xs) xs
  goes_on q =
      let m = get_or xs i x in
      let e : acceptable n before m ≡ true = sym (same_test m) ∙ q in
      let later : List AcceptedMark = drop (i + 1) xs in
      let made : Sofar n (after_mark n d m) (m ∷ before) later xs = record {
        came = came n before s.came m e;
        is = ap (λ (y : State). after_mark n y m) s.is ∙ after n before s.came m e;
        rest = sym (ap (λ (b : Bool). b && all_acceptable n (m ∷ before) later) e) ∙ sym (one_less xs i x h n before) ∙ s.rest;
      } in
      subst (λ (l : List AcceptedMark). Sofar n (after_mark n d m) l later xs) (sym (one_more xs i x h)) made

  pub breaks_off : takes_at d (get_or xs i x) ≡ false → all_acceptable n [] xs ≡ false
  breaks_off q =
      let m = get_or xs i x in
      let e : acceptable n before m ≡ false = sym (same_test m) ∙ q in
      sym s.rest ∙ one_less xs i x h n before ∙ and_left _ _ e

-- after the last mark
pub record Done (n : ℕ) (d : State) (xs : List AcceptedMark) : Type 0 where
  pub came : Came n (reverse xs)
  pub is : d ≡ played n (reverse xs)
  pub all : all_acceptable n [] xs ≡ true

pub done : (n : ℕ) (d : State) (i : ℕ) (xs : List AcceptedMark) → length xs ≤ i → Sofar n d (reverse (take i xs)) (drop i xs) xs → Done n d xs
done n d i xs h s =
    let a : take i xs ≡ xs = take_all i xs h in
    let b : drop i xs ≡ [] = drop_all i xs h in
    record {
      came = subst (λ (l : List AcceptedMark). Came n (reverse l)) a s.came;
      is = s.is ∙ ap (λ (l : List AcceptedMark). played n (reverse l)) a;
      all = sym s.rest ∙ ap (all_acceptable n (reverse (take i xs))) b;
    }

pub moved_on : (n : ℕ) (d : State) (xs : List AcceptedMark) (t : ℕ) → Done n d xs → timely (newest (reverse xs)) t ≡ true → moved d t ≡ read n (reverse xs) t
moved_on n d xs t s q =
    ap (λ (y : State). moved y t) s.is ∙ cond-true _ _ _ q
    ∙ (reads n).moves (reverse xs) (newest (reverse xs)) t s.came (omega arith) (not_before _ _ q)

-- what is made of the day after the last mark, where t is timely, is what the marks read at t
pub read_on : (n : ℕ) (d : State) (xs : List AcceptedMark) (t : ℕ) → Done n d xs → (r : Option State) → is_some r ≡ timely d.clock t → (P : State → Type 0) → ((x : State) → P x → x ≡ moved d t) → IfSome r P → r ≡ reading n xs t
read_on n d xs t s None e P f k = sym (not_timely n xs t (ap (λ (y : State). timely y.clock t) (sym s.is) ∙ sym e))
read_on n d xs t s (Some x) e P f k =
    let q : timely (newest (reverse xs)) t ≡ true = ap (λ (y : State). timely y.clock t) (sym s.is) ∙ sym e in
    ap (λ (y : State). Some y) (f x k ∙ moved_on n d xs t s q) ∙ sym (all_and_timely n xs t s.all q)
