-- Days worked out by hand, with three levels.
use Rattle.std.specs.Prelude.{◌≡◌, ℕ, List, [], ◌∷◌, Some, None}
use Rattle.watches.specs.declared.state.Side.TheVariants.{Upper, Lower}
use Rattle.watches.specs.declared.state.Kind.{Kind}
use Rattle.watches.specs.declared.state.Kind.TheVariants.{Bid, Offered, Clear}
use Rattle.watches.specs.declared.state.AcceptedMark.{AcceptedMark}
use Rattle.watches.specs.declared.state.Watch.TheVariants.{Idle}
use Rattle.watches.specs.declared.state.Phase.TheVariants.{Open}
use Rattle.watches.specs.Reading.{watch_starts, level, halt, read}

abbrev pub at : ℕ → Kind → AcceptedMark
at t k = record { time = t; kind = k }

-- The newest mark stands first.
abbrev pub offered_again : List AcceptedMark
offered_again = at 120999 Offered ∷ at 60000 Clear ∷ at 1000 Offered ∷ []

abbrev pub cleared_late : List AcceptedMark
cleared_late = at 120999 Clear ∷ at 60000 Clear ∷ at 1000 Offered ∷ []

abbrev pub both_sides : List AcceptedMark
both_sides = at 60000 Bid ∷ at 0 Offered ∷ []

abbrev pub both_at_once : List AcceptedMark
both_at_once = at 0 Bid ∷ at 0 Offered ∷ []

abbrev pub marked_at_the_end : List AcceptedMark
marked_at_the_end = at 120000 Offered ∷ at 60000 Clear ∷ at 0 Offered ∷ []

abbrev pub thrice_offered : List AcceptedMark
thrice_offered = at 600000 Offered ∷ at 300000 Offered ∷ at 0 Offered ∷ []

pub record Worked : Type 0 where
  -- The clear mark does not end the watch, and the last mark before its end is of its side.
  pub halt_begins : halt 3 offered_again 121000 ≡ Some 241000
  pub halt_runs : halt 3 offered_again 240999 ≡ Some 241000
  pub halt_is_over : halt 3 offered_again 241000 ≡ None
  -- The last mark before the end is clear: no halt, but a level more.
  pub no_halt : halt 3 cleared_late 121000 ≡ None
  pub level_rises : level 3 Lower cleared_late 121000 ≡ 2
  -- One mark, and a long silence.
  pub silence : read 3 (at 0 Offered ∷ []) 500000 ≡ record {
    clock = 500000;
    upper = record { level = 1; watch = Idle };
    lower = record { level = 2; watch = Idle };
    phase = Open;
    standing = None;
  }
  -- A bid while the lower watch runs: that one ends in no halt, the upper one does.
  pub lower_ends : level 3 Lower both_sides 120000 ≡ 2
  pub open_between : halt 3 both_sides 179999 ≡ None
  pub upper_halts : halt 3 both_sides 180000 ≡ Some 300000
  pub upper_level : level 3 Upper both_sides 180000 ≡ 2
  -- Two watches that end at one moment, the last mark being of the upper side.
  pub once_upper : level 3 Upper both_at_once 120000 ≡ 2
  pub once_lower : level 3 Lower both_at_once 120000 ≡ 2
  pub once_halt : halt 3 both_at_once 120000 ≡ Some 240000
  -- A mark at the end of a watch comes after that end, and so starts the next.
  pub end_is_clear : halt 3 marked_at_the_end 120000 ≡ None
  pub next_starts : watch_starts 3 Lower marked_at_the_end ≡ 120000 ∷ 0 ∷ []
  -- At the last level an offered mark starts no watch.
  pub last_level : watch_starts 3 Lower thrice_offered ≡ 300000 ∷ 0 ∷ []
