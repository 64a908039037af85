-- What ties a day that moves and takes marks to the reading of its accepted marks, and how levels and halts go by them.
use Rattle.std.specs.Prelude.{◌≡◌, ℕ, ◌+◌, ◌<◌, ◌≤◌, List, [], ◌∷◌, Some, None}
use Rattle.watches.specs.declared.state.Side.{Side}
use Rattle.watches.specs.declared.state.Kind.{Kind}
use Rattle.watches.specs.declared.state.AcceptedMark.{AcceptedMark}
use Rattle.watches.specs.declared.state.State.{State}
use Rattle.watches.specs.Words.{span}
use Rattle.watches.specs.Moving.{advanced}
use Rattle.watches.specs.Marking.{fresh, marked}
use Rattle.watches.specs.Reading.{watch_starts, ended, level, halt, read, newest, Came}

-- A day that moves and takes marks stays what its accepted marks read.
pub record Reads (n : ℕ) : Type 0 where
  -- No marks read as a fresh day.
  pub starts : read n [] 0 ≡ fresh
  -- What the marks read at c, moved on to t, is what they read at t.
  pub moves : (ms : List AcceptedMark) (c t : ℕ) → Came n ms → newest ms ≤ c → c ≤ t → advanced (read n ms c) t ≡ read n ms t
  -- What the marks read at t, where no halt runs, is with one mark more what they read with that mark.
  pub marks : (ms : List AcceptedMark) (t : ℕ) (k : Kind) → Came n ms → newest ms ≤ t → halt n ms t ≡ None
      → marked n (read n ms t) k ≡ read n (record { time = t; kind = k } ∷ ms) t

-- The level of a side at t is 1 and the watches that have ended there, lies within 1 to n, and never falls: neither in
-- time nor with one mark more.
pub record Levels (n : ℕ) (side : Side) (ms : List AcceptedMark) (t : ℕ) : Type 0 where
  pub counts : level n side ms t ≡ 1 + ended (watch_starts n side ms) t
  pub low : 1 ≤ level n side ms t
  pub high : 1 ≤ n → level n side ms t ≤ n
  pub later : (u : ℕ) → t ≤ u → level n side ms t ≤ level n side ms u
  pub more : (m : AcceptedMark) → level n side ms t ≤ level n side (m ∷ ms) t

-- Nor does a level fall in any state: moving may raise it, and a mark leaves it.
pub record LevelsKept (n : ℕ) (d : State) : Type 0 where
  pub upper_moves : (t : ℕ) → d.upper.level ≤ (advanced d t).upper.level
  pub lower_moves : (t : ℕ) → d.lower.level ≤ (advanced d t).lower.level
  pub upper_marks : (k : Kind) → (marked n d k).upper.level ≡ d.upper.level
  pub lower_marks : (k : Kind) → (marked n d k).lower.level ≡ d.lower.level

-- A halt that runs at t until e ends there: it is one and the same halt up to e, and without a further mark none runs
-- from e on.
pub record Covers (n : ℕ) (ms : List AcceptedMark) (t e : ℕ) : Type 0 where
  pub ahead : t < e
  pub near : e ≤ t + span
  pub same : (u : ℕ) → t ≤ u → u < e → halt n ms u ≡ Some e
  pub over : (u : ℕ) → e ≤ u → halt n ms u ≡ None

-- The laws of the reading, where n is the number of levels.
pub record Laws (n : ℕ) : Type 0 where
  pub reads : Reads n
  pub levels : (side : Side) (ms : List AcceptedMark) (t : ℕ) → Levels n side ms t
  pub levels_kept : (d : State) → LevelsKept n d
  pub halts : (ms : List AcceptedMark) (t e : ℕ) → Came n ms → newest ms ≤ t → halt n ms t ≡ Some e → Covers n ms t e
