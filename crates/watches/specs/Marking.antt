-- How a day begins, and what an accepted mark does to it.
use Rattle.std.specs.Prelude.{ℕ, ◌+◌, cond, Some, None, Option, nat_lt}
use Rattle.watches.specs.declared.state.Side.{Side}
use Rattle.watches.specs.declared.state.Side.TheVariants.{Upper, Lower}
use Rattle.watches.specs.declared.state.Kind.{Kind}
use Rattle.watches.specs.declared.state.Watch.{Watch}
use Rattle.watches.specs.declared.state.Watch.TheVariants.{Idle, Running}
use Rattle.watches.specs.declared.state.Phase.TheVariants.{Open}
use Rattle.watches.specs.declared.state.Band.{Band}
use Rattle.watches.specs.declared.state.State.{State}
use Rattle.watches.specs.Words.{span, side_of}

abbrev pub first_band : Band
first_band = record { level = 1; watch = Idle }

-- A day's start: both sides at level 1, and no mark, watch or halt.
abbrev pub fresh : State
fresh = record { clock = 0; upper = first_band; lower = first_band; phase = Open; standing = None }

-- A side marked at t, where w is its watch and n the number of levels: a watch starts if none runs and a level is left
-- above. A watch that runs goes on as it did.
abbrev pub started : ℕ → ℕ → Band → Watch → Band
started n t b Idle = cond (nat_lt b.level n) (record { level = b.level; watch = Running (t + span) }) b
started n t b (Running e) = b

-- The day with the band b on a side.
abbrev pub with_band : State → Side → Band → State
with_band d Upper b = record { clock = d.clock; upper = b; lower = d.lower; phase = d.phase; standing = d.standing }
with_band d Lower b = record { clock = d.clock; upper = d.upper; lower = b; phase = d.phase; standing = d.standing }

abbrev pub marked_on : ℕ → State → Option Side → State
marked_on n d (Some Upper) = record {
  clock = d.clock;
  upper = started n d.clock d.upper d.upper.watch;
  lower = d.lower;
  phase = d.phase;
  standing = Some Upper;
}
marked_on n d (Some Lower) = record {
  clock = d.clock;
  upper = d.upper;
  lower = started n d.clock d.lower d.lower.watch;
  phase = d.phase;
  standing = Some Lower;
}
marked_on n d None = record { clock = d.clock; upper = d.upper; lower = d.lower; phase = d.phase; standing = None }

-- The day with an accepted mark at its clock. The mark becomes the standing one, and a clear mark leaves none.
abbrev pub marked : ℕ → State → Kind → State
marked n d k = marked_on n d (side_of k)
