-- A day in the state that the accepted marks read answers what is due by them.
use Rattle.std.proofs.Common.{◌≡◌, ℕ, Bool, true, false, cond, not, ◌&&◌, List, is_some, Some, None, Ok, Err, Option, refl, ap, ◌∙◌}
use Rattle.limits.specs.Meaning.{Meaning}
use Rattle.listings.specs.declared.futures.FuturesMonth.{FuturesMonth}
use Rattle.listings.specs.declared.series.OptionSeries.{OptionSeries}
use Rattle.watches.specs.declared.state.AcceptedMark.{AcceptedMark}
use Rattle.watches.specs.declared.state.Kind.{Kind}
use Rattle.watches.specs.declared.state.Kind.TheVariants.{Bid, Offered, Clear}
use Rattle.watches.specs.declared.state.Side.{Side}
use Rattle.watches.specs.declared.state.Side.TheVariants.{Upper, Lower}
use Rattle.watches.specs.declared.state.State.{State}
use Rattle.watches.specs.Ends.{end_of, halt_end}
use Rattle.watches.specs.Reading.{watch_starts, watch_end, halt, standing, watch_till, phase_till, read}
use Rattle.day.specs.Answering as day
use Rattle.day.specs.declared.mark.Mark.{Mark}
use Rattle.days.specs.Asking.{Asked, mark, tick, look, future, series, CallData}
use Rattle.days.specs.Telling.{granted, shows, refused, said, after_checks, answer_at}
use Rattle.days.specs.Past.{clock, accepted, view_due, due}
use Rattle.days.specs.Due.{halted, at_edge, takes, view_at, stops, due_month, due_series, due_at, told_due, shown_due}

in_halt_same : (o : Option ℕ) → day.in_halt (phase_till o) ≡ is_some o
in_halt_same None = refl
in_halt_same (Some e) = refl

watch_same : (o : Option ℕ) → end_of (watch_till o) ≡ o
watch_same None = refl
watch_same (Some e) = refl

halt_same : (o : Option ℕ) → halt_end (phase_till o) ≡ o
halt_same None = refl
halt_same (Some e) = refl

-- two tests in a row, said
said_two : (h e : Bool) (j k : ℕ) → said (cond h (Err j) (cond e (Err k) (Ok tt))) ≡ cond h (refused j) (cond e (refused k) granted)
said_two true e j k = refl
said_two false true j k = refl
said_two false false j k = refl

said_mark : (h e : Bool) → said (cond h (Err 23) (cond e (Ok tt) (Err 26))) ≡ cond h (refused 23) (cond e granted (refused 26))
said_mark true e = refl
said_mark false true = refl
said_mark false false = refl

said_based : (b h e : Bool) → said (cond b (cond h (Err 23) (cond e (Err 25) (Ok tt))) (Err 29)) ≡ cond b (cond h (refused 23) (cond e (refused 25) granted)) (refused 29)
said_based true h e = said_two h e 23 25
said_based false h e = refl

module _ (m : Meaning) (p : ℕ) (ms : List AcceptedMark) (t : ℕ) where
  abbrev day_read : State
  day_read = read m.levels ms t

  halted_same : day.halted day_read ≡ halted m p ms t
  halted_same = in_halt_same (halt m.levels ms t)

  edge_same : (k : Kind) (q : ℕ) → day.at_edge k q (day.bounds_of m p day_read) ≡ at_edge m p k q ms t
  edge_same Bid q = refl
  edge_same Offered q = refl
  edge_same Clear q = refl

  pub takes_same : (k : Mark) → day.takes_mark m p day_read k.kind k.price ≡ takes m p ms t k
  takes_same k = ap (λ h. not h && day.at_edge k.kind k.price (day.bounds_of m p day_read)) halted_same ∙ ap (λ e. not (halted m p ms t) && e) (edge_same k.kind k.price)

  stops_same : (s : Option Side) (last : Bool) → day.against m.levels day_read s last ≡ stops m p s last ms t
  stops_same None last = refl
  stops_same (Some Upper) last = refl
  stops_same (Some Lower) last = refl

  pub view_same : day.seen m p day_read ≡ view_at m p ms t
  view_same =
      let a = watch_same (watch_end (watch_starts m.levels Lower ms) t) in
      let b = watch_same (watch_end (watch_starts m.levels Upper ms) t) in
      let c = halt_same (halt m.levels ms t) in
      cc

  month_same : (f : Option FuturesMonth) (q : ℕ) → said (day.month_answer m p day_read f q) ≡ due_month m p f q ms t
  month_same None q = refl
  month_same (Some f) q = let h = halted_same in said_two (day.halted day_read) _ 23 24 ∙ cc

  series_same : (s : Option OptionSeries) (based : Bool) → said (day.series_answer m p day_read s based) ≡ due_series m p s based ms t
  series_same None based = refl
  series_same (Some s) based =
      let h = halted_same in
      let a = stops_same (standing m.levels ms t) s.last_day in
      said_based based (day.halted day_read) (day.against m.levels day_read (standing m.levels ms t) s.last_day) ∙ cc

  pub at_same : (a : Asked) → answer_at m p day_read a ≡ due_at m p ms t a
  at_same (mark k q) = let h = halted_same in let e = edge_same k q in said_mark (day.halted day_read) (day.at_edge k q (day.bounds_of m p day_read)) ∙ cc
  at_same tick = refl
  at_same look = ap shows view_same
  at_same (future c q fs) = month_same (day.month_in c fs) q
  at_same (series o ss fs) = series_same (day.series_in o ss) (day.underlying_in o.contract.code fs)

-- what is due by a day read from the accepted marks is what is due by the marks
pub due_same : (m : Meaning) (p : ℕ) (cs : List CallData) (c : CallData) → due m p cs c ≡ told_due m p cs c
due_same m p cs c = ap (after_checks (clock m p cs) c) (at_same m p (accepted m p cs) c.time c.asked)

pub view_due_same : (m : Meaning) (p : ℕ) (cs : List CallData) → view_due m p cs ≡ shown_due m p cs
view_due_same m p cs = view_same m p (accepted m p cs) (clock m p cs)
