-- The reference due: the first window that has a mean, and in it the first tier.
use Rattle.std.specs.Prelude.{ℕ, zero, suc, ◌+◌, ◌-◌, ◌*◌, Bool, cond, ◌&&◌, List, [], ◌∷◌, length, Some, None, Err, filter, Option, Result, nat_le}
use Rattle.std.specs.Option.{option_map, ok_or}
use Rattle.tape.specs.Codes.{Refusal, refused}
use Rattle.tape.specs.Format.{Plain}
use Rattle.tape.specs.Reading.{Outcome, sound, faulty, parse}
use Rattle.reference.specs.declared.finding.Tier.{Tier}
use Rattle.reference.specs.declared.finding.Tier.TheVariants.{Trades, Quotes}
use Rattle.reference.specs.declared.finding.Request.{Request}
use Rattle.reference.specs.declared.finding.Reference.{Reference}
use Rattle.reference.specs.declared.sums.Sums.{Sums}
use Rattle.reference.specs.declared.sums.Tallies.{Tallies}
use Rattle.reference.specs.Priced.{Kind, trade_kind, quote_kind, mean_of, mean}
use Rattle.reference.specs.Sums.{named}
use Rattle.reference.specs.Windows.{fit_range, within}

abbrev pub tier_number : Tier → ℕ
tier_number Trades = 1
tier_number Quotes = 2

-- what a tier counts
abbrev pub kind : Tier → Kind
kind Trades = trade_kind
kind Quotes = quote_kind

-- the tiers in the order in which they are tried
abbrev pub tiers : List Tier
tiers = Trades ∷ Quotes ∷ []

abbrev pub else_by : {X : Type 0} → Option X → Option X → Option X
else_by (Some x) o = Some x
else_by None o = o

abbrev pub answer : Tier → ℕ → ℕ → Reference
answer t w p = record { price = p; tier = t; windows = w }

-- the first tier that has a mean, in window w
abbrev pub first_tier : (Tier → Option ℕ) → ℕ → List Tier → Option Reference
first_tier means w [] = None
first_tier means w (t ∷ ts) = else_by (option_map (answer t w) (means t)) (first_tier means w ts)

-- the symbol's records in window w: the times from close - 30,000 w up to but without close
abbrev pub asked : List ℕ → ℕ → ℕ → Plain → Bool
asked symbol close w r = within (close - 30000 * w) close r && named symbol r

abbrev pub window : List ℕ → ℕ → ℕ → List Plain → List Plain
window symbol close w rs = filter (asked symbol close w) rs

-- the mean that a tier has in some records
abbrev pub means_of : List Plain → Tier → Option ℕ
means_of rs t = mean (kind t) rs

-- the first of n windows, from w on, that has a mean
abbrev pub first_window : List ℕ → ℕ → List Plain → ℕ → ℕ → Option Reference
first_window symbol close rs w zero = None
first_window symbol close rs w (suc n) = else_by (first_tier (means_of (window symbol close w rs)) w tiers) (first_window symbol close rs (w + 1) n)

abbrev pub fit : Request → Bool
fit q = nat_le 1 (length q.symbol.now) && nat_le (length q.symbol.now) 12 && fit_range q.close q.windows

-- what n windows from w on give on a tape, or the tape's own refusal
abbrev pub searched : List ℕ → ℕ → Outcome → ℕ → ℕ → Result Reference Refusal
searched symbol close (sound rs) w n = ok_or (first_window symbol close rs w n) (refused 9)
searched symbol close (faulty f) w n = Err f

-- the answer due to a request for a tape: the request is judged first, then the whole tape, then its windows from 1 on
abbrev pub due : Request → List ℕ → Result Reference Refusal
due q b = cond (fit q) (searched q.symbol.now q.close (parse b) 1 q.windows) (Err (refused 8))

-- the mean of each tier from the sums that the code has kept
abbrev pub sums_for : Tallies → Tier → Sums
sums_for t Trades = t.trades
sums_for t Quotes = t.quotes

abbrev pub mean_in : Tallies → Tier → Option ℕ
mean_in t tier = mean_of (kind tier).divisor (sums_for t tier).total (sums_for t tier).weights
