-- The answer due to a call, read from the marks accepted before it. The newest stands first, m is the rule's meaning and
-- p the price.
use Rattle.std.specs.Prelude.{ℕ, Bool, true, false, cond, not, ◌&&◌, List, is_some, Some, None, Option, ◌==◌}
use Rattle.limits.specs.declared.bounds.Bounds.{Bounds}
use Rattle.limits.specs.Meaning.{Meaning}
use Rattle.limits.specs.Around.{bounds, within}
use Rattle.listings.specs.declared.futures.FuturesMonth.{FuturesMonth}
use Rattle.listings.specs.declared.series.OptionSeries.{OptionSeries}
use Rattle.watches.specs.declared.state.AcceptedMark.{AcceptedMark}
use Rattle.watches.specs.declared.state.Kind.{Kind}
use Rattle.watches.specs.declared.state.Kind.TheVariants.{Bid, Offered, Clear}
use Rattle.watches.specs.declared.state.Side.{Side}
use Rattle.watches.specs.declared.state.Side.TheVariants.{Upper, Lower}
use Rattle.watches.specs.Reading.{watch_starts, watch_end, level, halt, standing}
use Rattle.day.specs.declared.view.View.{View}
use Rattle.day.specs.Answering.{month_in, series_in, underlying_in}
use Rattle.day.specs.Form.{futures_tick}
use Rattle.day.specs.declared.mark.Mark.{Mark}
use Rattle.days.specs.Asking.{Asked, mark, tick, look, future, series, CallData}
use Rattle.days.specs.Past.{clock, accepted}
use Rattle.days.specs.Telling.{Told, granted, shows, refused, after_checks}

module _ (m : Meaning) (p : ℕ) where
  -- The limits and edges at t, each side at its level there.
  abbrev pub bounds_at : List AcceptedMark → ℕ → Bounds
  bounds_at ms t = bounds m futures_tick p (level m.levels Lower ms t) (level m.levels Upper ms t)

  abbrev pub inside : List AcceptedMark → ℕ → ℕ → Bool
  inside ms t q = within (bounds_at ms t) q

  -- A halt runs at t.
  abbrev pub halted : List AcceptedMark → ℕ → Bool
  halted ms t = is_some (halt m.levels ms t)

  -- The mark is clear, or its price is its side's edge at t.
  abbrev pub at_edge : Kind → ℕ → List AcceptedMark → ℕ → Bool
  at_edge Bid q ms t = q == (bounds_at ms t).upper_edge
  at_edge Offered q ms t = q == (bounds_at ms t).lower_edge
  at_edge Clear q ms t = true

  -- Accepted: a mark at t, exactly when by the marks accepted before it no halt runs at t and it is clear or at its
  -- side's edge.
  abbrev pub takes : List AcceptedMark → ℕ → Mark → Bool
  takes ms t k = not (halted ms t) && at_edge k.kind k.price ms t

  -- What a look at t shows.
  abbrev pub view_at : List AcceptedMark → ℕ → View
  view_at ms t = record {
    bounds = bounds_at ms t;
    lower_level = level m.levels Lower ms t;
    upper_level = level m.levels Upper ms t;
    standing = standing m.levels ms t;
    lower_watch = watch_end (watch_starts m.levels Lower ms) t;
    upper_watch = watch_end (watch_starts m.levels Upper ms) t;
    halt = halt m.levels ms t;
  }

  -- Against: the standing mark, where there is one, stops an option, unless its side is at level n and the option is on
  -- its last day.
  abbrev pub stops : Option Side → Bool → List AcceptedMark → ℕ → Bool
  stops None last_day ms t = false
  stops (Some side) last_day ms t = not (level m.levels side ms t == m.levels && last_day)

  abbrev pub against : Bool → List AcceptedMark → ℕ → Bool
  against last_day ms t = stops (standing m.levels ms t) last_day ms t

  -- An order in a month that is listed, or is not.
  abbrev pub due_month : Option FuturesMonth → ℕ → List AcceptedMark → ℕ → Told
  due_month None q ms t = refused 22
  due_month (Some f) q ms t = cond (halted ms t) (refused 23) (cond (not f.last_day && not (inside ms t q)) (refused 24) granted)

  -- An order in a series that is listed, or is not; `based` says that its underlying is.
  abbrev pub due_series : Option OptionSeries → Bool → List AcceptedMark → ℕ → Told
  due_series None based ms t = refused 22
  due_series (Some s) based ms t =
      cond based (cond (halted ms t) (refused 23) (cond (against s.last_day ms t) (refused 25) granted)) (refused 29)

  -- What is due at t to a call that is well formed and timely.
  abbrev pub due_at : List AcceptedMark → ℕ → Asked → Told
  due_at ms t (mark k q) = cond (halted ms t) (refused 23) (cond (at_edge k q ms t) granted (refused 26))
  due_at ms t tick = granted
  due_at ms t look = shows (view_at ms t)
  due_at ms t (future c q fs) = due_month (month_in c fs) q ms t
  due_at ms t (series o ss fs) = due_series (series_in o ss) (underlying_in o.contract.code fs) ms t

  -- The answer due to a call after these.
  abbrev pub told_due : List CallData → CallData → Told
  told_due cs c = after_checks (clock m p cs) c (due_at (accepted m p cs) c.time c.asked)

  -- The view due after these, at the clock.
  abbrev pub shown_due : List CallData → View
  shown_due cs = view_at (accepted m p cs) (clock m p cs)
