-- Times of a day, and the side that a mark is of.
use Rattle.std.specs.Prelude.{ℕ, Bool, true, false, ◌&&◌, Some, None, Option, nat_le}
use Rattle.watches.specs.declared.state.Side.{Side}
use Rattle.watches.specs.declared.state.Side.TheVariants.{Upper, Lower}
use Rattle.watches.specs.declared.state.Kind.{Kind}
use Rattle.watches.specs.declared.state.Kind.TheVariants.{Bid, Offered, Clear}

-- How long a watch runs, and how long a halt, in milliseconds.
abbrev pub span : ℕ
span = 120000

-- The last moment of a day.
abbrev pub last_moment : ℕ
last_moment = 86399999

-- Not before the clock, and of the day.
abbrev pub timely : ℕ → ℕ → Bool
timely clock t = nat_le clock t && nat_le t last_moment

-- The side that a mark is of; a clear mark is of none.
abbrev pub side_of : Kind → Option Side
side_of Bid = Some Upper
side_of Offered = Some Lower
side_of Clear = None

-- The mark is of the side.
abbrev pub of : Side → Kind → Bool
of Upper Bid = true
of Upper Offered = false
of Upper Clear = false
of Lower Bid = false
of Lower Offered = true
of Lower Clear = false
