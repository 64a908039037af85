-- A day played mark by mark, and what the marks read.
use Rattle.std.specs.Prelude.{ℕ, Bool, true, false, cond, ◌&&◌, List, [], ◌∷◌, reverse, Some, None, Option}
use Rattle.watches.specs.declared.state.AcceptedMark.{AcceptedMark}
use Rattle.watches.specs.declared.state.Phase.{Phase}
use Rattle.watches.specs.declared.state.Phase.TheVariants.{Open, Halted}
use Rattle.watches.specs.declared.state.State.{State}
use Rattle.watches.specs.Words.{timely}
use Rattle.watches.specs.Moving.{advanced, moved}
use Rattle.watches.specs.Marking.{marked}
use Rattle.watches.specs.Reading.{halt, read, newest}

abbrev pub is_open : Phase → Bool
is_open Open = true
is_open (Halted e) = false

-- The day takes the mark: its time is timely, and no halt runs there.
abbrev pub takes_at : State → AcceptedMark → Bool
takes_at d m = timely d.clock m.time && is_open (advanced d m.time).phase

-- The day after a mark, taken or not.
abbrev pub after_mark : ℕ → State → AcceptedMark → State
after_mark n d m = cond (takes_at d m) (marked n (advanced d m.time) m.kind) (moved d m.time)

abbrev pub none : Option ℕ → Bool
none None = true
none (Some e) = false

-- The mark can be accepted after the marks before it, the newest first: it is timely, and by those marks no halt runs.
abbrev pub acceptable : ℕ → List AcceptedMark → AcceptedMark → Bool
acceptable n ms m = timely (newest ms) m.time && none (halt n ms m.time)

-- Each of the marks to come, the oldest first, can be accepted after those before it; ms have been, the newest first.
abbrev pub all_acceptable : ℕ → List AcceptedMark → List AcceptedMark → Bool
all_acceptable n ms [] = true
all_acceptable n ms (x ∷ xs) = acceptable n ms x && all_acceptable n (x ∷ ms) xs

-- What marks in the order of their acceptance read at t, if they can all be accepted and t is timely after them.
abbrev pub reading : ℕ → List AcceptedMark → ℕ → Option State
reading n xs t = cond (all_acceptable n [] xs && timely (newest (reverse xs)) t) (Some (read n (reverse xs) t)) None
