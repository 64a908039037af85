-- Levels rise within 1 to n, and never fall.
use Rattle.std.proofs.Common.{◌≡◌, ℕ, ◌+◌, ◌≤◌, cond, ◌&&◌, ltb, leb, List, [], ◌∷◌, length, refl, arith}
use Rattle.std.proofs.lemmas.Bool.Decides.{nat_tests}
use Rattle.std.proofs.lemmas.Bool.{cond_both, and_parts, ltb-true}
use Rattle.watches.specs.declared.state.Side.{Side}
use Rattle.watches.specs.declared.state.AcceptedMark.{AcceptedMark}
use Rattle.watches.specs.declared.state.Kind.{Kind}
use Rattle.watches.specs.declared.state.Kind.TheVariants.{Bid, Offered, Clear}
use Rattle.watches.specs.declared.state.Watch.{Watch}
use Rattle.watches.specs.declared.state.Watch.TheVariants.{Idle, Running}
use Rattle.watches.specs.declared.state.Band.{Band}
use Rattle.watches.specs.declared.state.State.{State}
use Rattle.watches.specs.Words.{span, of}
use Rattle.watches.specs.Ends.{risen}
use Rattle.watches.specs.Marking.{started, marked}
use Rattle.watches.specs.Reading.{none_runs, with_any_mark, watch_starts, ended}
use Rattle.watch_laws.specs.Laws.{Levels, LevelsKept}

one_at_most : (s t : ℕ) → cond (leb (s + span) t) 1 0 ≤ 1
one_at_most s t = cond_both (leb (s + span) t) 1 0 (λ x. x ≤ 1) (λ _. omega arith) (λ _. omega arith)

one_later : (s t u : ℕ) → t ≤ u → cond (leb (s + span) t) 1 0 ≤ cond (leb (s + span) u) 1 0
one_later s t u h = grind (arith, nat_tests)

ended_few : (ss : List ℕ) (t : ℕ) → ended ss t ≤ length ss
ended_few [] t = omega arith
ended_few (s ∷ ss) t = let a = one_at_most s t in let r = ended_few ss t in omega arith

ended_later : (ss : List ℕ) (t u : ℕ) → t ≤ u → ended ss t ≤ ended ss u
ended_later [] t u h = omega arith
ended_later (s ∷ ss) t u h = let a = one_later s t u h in let r = ended_later ss t u h in omega arith

starts_few : (n : ℕ) (side : Side) (ms : List AcceptedMark) → 1 ≤ n → 1 + length (watch_starts n side ms) ≤ n
starts_few n side [] h = omega arith
starts_few n side (m ∷ ms) h =
    let ss = watch_starts n side ms in
    let r = starts_few n side ms h in
    cond_both (of side m.kind && none_runs ss m.time && ltb (length ss + 1) n) (m.time ∷ ss) ss (λ l. 1 + length l ≤ n)
    (λ e. let b = ltb-true (length ss + 1) n (and_parts (of side m.kind && none_runs ss m.time) (ltb (length ss + 1) n) e).1 in omega arith) (λ _. r)

ended_more : (n : ℕ) (side : Side) (m : AcceptedMark) (ss : List ℕ) (t : ℕ) → ended ss t ≤ ended (with_any_mark n side m ss) t
ended_more n side m ss t =
    cond_both (of side m.kind && none_runs ss m.time && ltb (length ss + 1) n) (m.time ∷ ss) ss (λ l. ended ss t ≤ ended l t)
    (λ _. omega arith) (λ _. omega arith)

pub rises : (n : ℕ) (side : Side) (ms : List AcceptedMark) (t : ℕ) → Levels n side ms t
rises n side ms t = record {
  counts = refl;
  low = omega arith;
  high = λ h. let a = starts_few n side ms h in let b = ended_few (watch_starts n side ms) t in omega arith;
  later = λ u h. let a = ended_later (watch_starts n side ms) t u h in omega arith;
  more = λ m. let a = ended_more n side m (watch_starts n side ms) t in omega arith;
}

risen_level : (t l : ℕ) (w : Watch) → l ≤ (risen t (record { level = l; watch = w })).level
risen_level t l Idle = omega arith
risen_level t l (Running e) = grind (arith, nat_tests)

started_level : (n t : ℕ) (b : Band) (w : Watch) → (started n t b w).level ≡ b.level
started_level n t b Idle = cond_both (ltb b.level n) (record { level = b.level; watch = Running (t + span) }) b (λ (x : Band). x.level ≡ b.level) (λ _. refl) (λ _. refl)
started_level n t b (Running e) = refl

upper_marked : (n : ℕ) (d : State) (k : Kind) → (marked n d k).upper.level ≡ d.upper.level
upper_marked n d Bid = started_level n d.clock d.upper d.upper.watch
upper_marked n d Offered = refl
upper_marked n d Clear = refl

lower_marked : (n : ℕ) (d : State) (k : Kind) → (marked n d k).lower.level ≡ d.lower.level
lower_marked n d Bid = refl
lower_marked n d Offered = started_level n d.clock d.lower d.lower.watch
lower_marked n d Clear = refl

pub keeps : (n : ℕ) (d : State) → LevelsKept n d
keeps n d = record {
  upper_moves = λ t. risen_level t d.upper.level d.upper.watch;
  lower_moves = λ t. risen_level t d.lower.level d.lower.watch;
  upper_marks = upper_marked n d;
  lower_marks = lower_marked n d;
}
