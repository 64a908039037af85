-- Multiples near a number, and the limits and edges around a price.
use Rattle.std.specs.Prelude.{ℕ, ◌+◌, ◌-◌, ◌%◌, ◌^◌, Bool, cond, ◌&&◌, nat_le, nat_lt}
use Rattle.std.specs.Option.{unwrap_or}
use Rattle.limits.specs.Meaning.{Meaning, offset_at}
use Rattle.limits.specs.declared.bounds.Bounds.{Bounds}

-- The largest multiple of a step that is not above x. The only multiple of 0 is 0.
abbrev pub not_above : ℕ → ℕ → ℕ
not_above step x = x - x % step

-- The next multiple of a step from x on, x itself if it is one.
abbrev pub next : ℕ → ℕ → ℕ
next step x = x + (step - x % step) % step

-- The smallest multiple of a step that is not below x, and x itself where no u32 is one. At a price that a rule takes
-- and a step above 0 there always is one.
abbrev pub not_below : ℕ → ℕ → ℕ
not_below step x = cond (nat_lt 0 step && nat_lt (next step x) (2 ^ 32)) (next step x) x

-- How far a level lies from the price, 0 where the rule has no offset.
abbrev pub distance : Meaning → ℕ → ℕ → ℕ
distance m level p = unwrap_or (offset_at m level p) 0

-- Both limits with their edges.
abbrev pub edged : ℕ → ℕ → ℕ → Bounds
edged tick low high = record {
  lower = low;
  upper = high;
  lower_edge = not_below tick low;
  upper_edge = not_above tick high;
}

-- The limits around a price at each side's level. The edges are the multiples of the tick next to them, on the
-- price's side.
abbrev pub bounds : Meaning → ℕ → ℕ → ℕ → ℕ → Bounds
bounds m tick p lower upper = edged tick (p - distance m lower p) (p + distance m upper p)

-- Inside includes both limits.
abbrev pub within : Bounds → ℕ → Bool
within b q = nat_le b.lower q && nat_le q b.upper
