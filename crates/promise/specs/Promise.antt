-- The promise about two days of one rule and one reference request, whatever calls each has taken. Accepted marks, watches,
-- halts, levels, clocks and the standing mark are read from what the calls carried. Calls stand newest first.
use Rattle.std.specs.Prelude.{◌≡◌, ℕ, ◌+◌, ◌≤◌, true, false, List, ◌++◌, Ok}
use Rattle.reference.specs.declared.finding.Reference.{Reference}
use Rattle.reference.specs.declared.finding.Request.{Request}
use Rattle.limits.specs.Meaning.{Meaning, points}
use Rattle.limits.specs.Laws.{Edges}
use Rattle.listings.specs.declared.code.MonthCode.{MonthCode}
use Rattle.listings.specs.declared.futures.FuturesMonth.{FuturesMonth}
use Rattle.listings.specs.declared.series.OptionSeries.{OptionSeries}
use Rattle.listings.specs.Kinds.{same_month, same_series}
use Rattle.watches.specs.declared.state.Side.TheVariants.{Upper, Lower}
use Rattle.watches.specs.Reading.{watch_starts, ended}
use Rattle.day.specs.declared.order.OptionOrder.{OptionOrder}
use Rattle.day.specs.declared.view.View.{View}
use Rattle.days.specs.Asking.{CallData}
use Rattle.days.specs.Telling.{Told, granted}
use Rattle.days.specs.Past.{clock, accepted}
use Rattle.days.specs.Due.{inside, halted, against, shown_due, told_due}
use Rattle.promise.specs.Parts.{Given, Part, not_opened, ran, reference_in, Referred, opens_at, part_due}
use Rattle.promise.specs.Same.{SameTapes, Agree, SameMonths, SameSeries, Reordered, SameAsked}
use Rattle.promise.specs.Fit.{FitFuture, FitOption}

abbrev pub Exactly : Type 0 → Type 0 → Type 0
Exactly P Q = (P → Q) × (Q → P)

module _ (m : Meaning) where
  -- What a day that opened at p keeps, where cs are its calls and c is the further one: k, v and a are the clock, the
  -- view and the answer told.
  pub record Keeps (p : ℕ) (cs : List CallData) (c : CallData) (k : ℕ) (v : View) (a : Told) : Type 0 where
    pub takes : m.takes p ≡ true
    pub clock_due : k ≡ clock m p cs
    pub view : v ≡ shown_due m p cs
    pub answer : a ≡ told_due m p cs c
    -- Each side stands one level on for each watch that ended there, and its limit is that level's offset away.
    pub lower_level : v.lower_level ≡ 1 + ended (watch_starts m.levels Lower (accepted m p cs)) k
    pub upper_level : v.upper_level ≡ 1 + ended (watch_starts m.levels Upper (accepted m p cs)) k
    pub lower_limit : v.bounds.lower + m.offset v.lower_level p ≡ p
    pub upper_limit : v.bounds.upper ≡ p + m.offset v.upper_level p
    pub edges : Edges (points 5) v.bounds
    -- A price that was inside after some of the calls, at any moment up to the clock, is inside now.
    pub stays : (newer older : List CallData) → cs ≡ newer ++ older → (t q : ℕ) → t ≤ k
        → inside m p (accepted m p older) t q ≡ true → (v.bounds.lower ≤ q) × (q ≤ v.bounds.upper)
    -- A fit futures order is admitted exactly when its price is inside and no halt runs.
    pub admits_futures : (code : MonthCode) (q : ℕ) (ms : List FuturesMonth) → FitFuture k c code q ms
        → Exactly (a ≡ granted) ((inside m p (accepted m p cs) c.time q ≡ true) × (halted m p (accepted m p cs) c.time ≡ false))
    -- A fit option order is admitted exactly when no halt runs and no mark stands against it.
    pub admits_options : (o : OptionOrder) (ss : List OptionSeries) (ms : List FuturesMonth) (s : OptionSeries) → FitOption k c o ss ms s
        → Exactly (a ≡ granted) ((halted m p (accepted m p cs) c.time ≡ false) × (against m p s.last_day (accepted m p cs) c.time ≡ false))

  -- What each day's part is, by itself.
  pub record Kept (q : Request) (d : Given) (one : Part) : Type 0 where
    pub due : one ≡ part_due m q d
    pub refers : Referred q d.tape (reference_in one)
    pub opens : (r : Reference) (p k : ℕ) (v : View) (a : Told) → one ≡ ran r p k v a → p ≡ opens_at m r
    pub keeps : (r : Reference) (p k : ℕ) (v : View) (a : Told) → one ≡ ran r p k v a → Keeps p d.calls d.next k v a

  -- Both days open at the price of the reference, rounded; or the rule does not take that price, and neither does.
  pub data OpenAlike (r : Reference) : Part → Part → Type 0 where
    both : {k l : ℕ} {v w : View} {a b : Told} → m.takes (opens_at m r) ≡ true → OpenAlike r (ran r (opens_at m r) k v a) (ran r (opens_at m r) l w b)
    neither : m.takes (opens_at m r) ≡ false → OpenAlike r (not_opened r 10) (not_opened r 10)

  -- The promise: d and e are what the two days are given, one and two their parts.
  pub record Promise (q : Request) (d e : Given) (one two : Part) : Type 0 where
    pub first : Kept q d one
    pub second : Kept q e two
    -- The same records in the widest window: one reference or one refusal,
    pub one_reference : SameTapes q d.tape e.tape → reference_in one ≡ reference_in two
    -- and at a reference both days open at its price, or neither does.
    pub open_alike : (r : Reference) → SameTapes q d.tape e.tape → reference_in one ≡ Ok r → OpenAlike r one two
    -- The same accepted marks: a further call behind neither clock, shown the same listings, gets the same answer, the one
    -- due.
    pub same_answer : (r s : Reference) (p k l : ℕ) (v w : View) (a b : Told) → one ≡ ran r p k v a → two ≡ ran s p l w b
        → Agree (accepted m p d.calls) (accepted m p e.calls)
        → d.next.time ≡ e.next.time → SameAsked d.next.asked e.next.asked → k ≤ d.next.time → l ≤ e.next.time
        → (a ≡ b) × (a ≡ told_due m p d.calls d.next)
    -- Rosters with the same entries, in whatever order, list the same.
    pub months_in_any_order : (xs ys : List FuturesMonth) → Reordered same_month xs ys → SameMonths xs ys
    pub series_in_any_order : (xs ys : List OptionSeries) → Reordered same_series xs ys → SameSeries xs ys
