-- The edge cases of the rules, by the definitions that the contracts cite. Prices are hundredths of a point, days run under
-- the daily rule at 38,130 with every mark at its side's edge, and calls stand newest first.
use Rattle.std.specs.Prelude.{◌≡◌, ℕ, ◌+◌, true, false, List, [], ◌∷◌, Some, None, Ok, sum, Result}
use Rattle.tape.specs.Codes.{Refusal}
use Rattle.tape.specs.Format.{Plain, trade, quote}
use Rattle.tape.specs.Reading.{sound}
use Rattle.reference.specs.declared.finding.Reference.{Reference}
use Rattle.reference.specs.declared.finding.Tier.TheVariants.{Trades, Quotes}
use Rattle.reference.specs.Finding as reference
use Rattle.tape_laws.specs.Examples.{nk}
use Rattle.limits.specs.declared.bounds.Bounds.{Bounds}
use Rattle.limits.specs.Meaning.{points, offset_at}
use Rattle.limits.specs.Around.{bounds}
use Rattle.rules.specs.Figures.{closes_sound}
use Rattle.rules.specs.Named.{daily, quarterly}
use Rattle.rules.specs.Worked.{mild, uneven}
use Rattle.listings.specs.declared.code.MonthCode.{MonthCode}
use Rattle.watches.specs.declared.state.Kind.{Kind}
use Rattle.watches.specs.declared.state.Kind.TheVariants.{Bid, Offered, Clear}
use Rattle.watches.specs.declared.state.Side.TheVariants.{Upper, Lower}
use Rattle.watches.specs.Reading.{level, halt}
use Rattle.day.specs.Form.{futures_tick}
use Rattle.days.specs.Asking.{CallData, mark, look, future}
use Rattle.days.specs.Telling.{granted, shows, refused}
use Rattle.days.specs.Past.{accepted}
use Rattle.days.specs.Due.{bounds_at, halted, told_due}
use Rattle.promise.specs.Parts.{opens_at}

-- The reference due on these records in the 30 seconds before 15:30.
abbrev pub found : List Plain → Result Reference Refusal
found rs = reference.searched nk 55800000 (sound rs) 1 1

abbrev pub trades : List Plain
trades = trade 55770000 (points 38125) 1 nk ∷ trade 55770000 (points 38135) 2 nk ∷ []

abbrev pub quotes : List Plain
quotes =
    quote 55770000 (points 38120) (points 38125) nk ∷ quote 55770000 (points 38100) (points 38130) nk
    ∷ quote 55770000 (points 38100) (points 38135) nk ∷ []

pub record References : Type 0 where
  pub of_trades : found trades ≡ Ok (reference.answer Trades 1 (points 38131 + 66))
  pub opening : opens_at daily (reference.answer Trades 1 (points 38131 + 66)) ≡ points 38130
  -- The third quote is 35 points wide and does not count.
  pub of_quotes : found quotes ≡ Ok (reference.answer Quotes 1 (points 38118 + 75))

abbrev pub price : ℕ
price = points 38130

-- Limits whose edges lie on them.
abbrev pub whole : ℕ → ℕ → Bounds
whole low high = record { lower = points low; upper = points high; lower_edge = points low; upper_edge = points high }

-- The limits at 38,130 by level.
abbrev pub by_level : List Bounds
by_level = whole 35080 41180 ∷ whole 33560 42700 ∷ whole 32030 44230 ∷ []

pub record DailyLimits : Type 0 where
  pub taken : daily.takes price ≡ true
  pub first_offset : offset_at daily 1 price ≡ Some (points 3050)
  pub second_offset : offset_at daily 2 price ≡ Some (points 4570)
  pub third_offset : offset_at daily 3 price ≡ Some (points 6100)
  pub limits : bounds daily futures_tick price 1 1 ∷ bounds daily futures_tick price 2 2 ∷ bounds daily futures_tick price 3 3 ∷ [] ≡ by_level

-- Nineteen closes of 14,000 and one of 14,900; nineteen of 14,083.33 and one of 14,083.40.
pub record QuarterlyLimits : Type 0 where
  pub mild_closes : closes_sound mild ≡ true
  pub first_offset : offset_at (quarterly (sum mild)) 1 (points 14212) ≡ Some (points 1120)
  pub second_offset : offset_at (quarterly (sum mild)) 2 (points 14212) ≡ Some (points 1680)
  pub third_offset : offset_at (quarterly (sum mild)) 3 (points 14212) ≡ Some (points 2240)
  pub around : bounds (quarterly (sum mild)) futures_tick (points 14212) 1 1 ≡ record {
    lower = points 13092;
    upper = points 15332;
    lower_edge = points 13095;
    upper_edge = points 15330;
  }
  pub uneven_closes : closes_sound uneven ≡ true
  pub uneven_second : offset_at (quarterly (sum uneven)) 2 (points 14083) ≡ Some (points 1690)

abbrev pub marks : ℕ → Kind → ℕ → CallData
marks t k q = record { time = t; asked = mark k (points q) }

abbrev pub looks : ℕ → CallData
looks t = record { time = t; asked = look }

-- March 2027, and an order in it, shown that month alone.
abbrev pub march : MonthCode
march = record { letter = 72; year = 27 }

abbrev pub orders : ℕ → ℕ → CallData
orders t q = record { time = t; asked = future march (points q) (record { code = march; last_day = false } ∷ []) }

abbrev pub offered_again : List CallData
offered_again = marks 120999 Offered 35080 ∷ marks 60000 Clear 0 ∷ marks 1000 Offered 35080 ∷ []

-- A halt from 121,000 to 241,000.
pub record Halts : Type 0 where
  pub before : halted daily price (accepted daily price offered_again) 120999 ≡ false
  pub starts : halt 3 (accepted daily price offered_again) 121000 ≡ Some 241000
  pub runs : told_due daily price offered_again (orders 240999 38130) ≡ refused 23
  pub over_inside : told_due daily price offered_again (orders 241000 33560) ≡ granted
  pub over_outside : told_due daily price offered_again (orders 241000 33555) ≡ refused 24

abbrev pub cleared_late : List CallData
cleared_late = marks 120999 Clear 0 ∷ marks 60000 Clear 0 ∷ marks 1000 Offered 35080 ∷ []

-- The last mark before the end is clear: no halt, and the next limit from 121,000 on.
pub record Clears : Type 0 where
  pub no_halt : halt 3 (accepted daily price cleared_late) 121000 ≡ None
  pub before : (bounds_at daily price (accepted daily price cleared_late) 120999).lower ≡ points 35080
  pub lower_limit : (bounds_at daily price (accepted daily price cleared_late) 121000).lower ≡ points 33560
  pub admits : told_due daily price cleared_late (orders 121000 33560) ≡ granted

abbrev pub offered_once : List CallData
offered_once = marks 0 Offered 35080 ∷ []

-- A watch and a halt both run out in a silence.
pub record Silence : Type 0 where
  pub opens_again : told_due daily price offered_once (looks 500000) ≡ shows (record {
    bounds = record { lower = points 33560; upper = points 41180; lower_edge = points 33560; upper_edge = points 41180 };
    lower_level = 2;
    upper_level = 1;
    standing = None;
    lower_watch = None;
    upper_watch = None;
    halt = None;
  })

abbrev pub both_sides : List CallData
both_sides = marks 60000 Bid 41180 ∷ marks 0 Offered 35080 ∷ []

-- The lower watch ends in no halt, since the last mark before its end is bid; the upper one does.
pub record BothSides : Type 0 where
  pub lower_before : level 3 Lower (accepted daily price both_sides) 119999 ≡ 1
  pub lower_level : level 3 Lower (accepted daily price both_sides) 120000 ≡ 2
  pub open_between : halt 3 (accepted daily price both_sides) 179999 ≡ None
  pub halt_starts : halt 3 (accepted daily price both_sides) 180000 ≡ Some 300000
  pub halt_over : halt 3 (accepted daily price both_sides) 300000 ≡ None
  pub upper_level : level 3 Upper (accepted daily price both_sides) 180000 ≡ 2

pub record EdgeCases : Type 0 where
  pub references : References
  pub daily_limits : DailyLimits
  pub quarterly_limits : QuarterlyLimits
  pub halts : Halts
  pub clears : Clears
  pub silence : Silence
  pub both : BothSides
