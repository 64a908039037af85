-- The same call after the same accepted marks gets the same answer.
use Rattle.std.proofs.Common.{◌≡◌, ℕ, ◌≤◌, Bool, cond, ◌&&◌, leb, List, [], ◌∷◌, is_some, Option, refl, ap, ◌∙◌}
use Rattle.std.proofs.lemmas.Bool.{le-leb}
use Rattle.limits.specs.Meaning.{Meaning}
use Rattle.listings.specs.declared.futures.FuturesMonth.{FuturesMonth}
use Rattle.listings.specs.declared.series.OptionSeries.{OptionSeries}
use Rattle.listings.specs.Months.{underlying_code}
use Rattle.watches.specs.declared.state.AcceptedMark.{AcceptedMark}
use Rattle.watches.specs.declared.state.Kind.{Kind}
use Rattle.watches.specs.Words.{last_moment}
use Rattle.day.specs.Answering.{series_in, underlying_in}
use Rattle.days.specs.Asking.{Asked, CallData, well_formed, timely}
use Rattle.days.specs.Telling.{Told, refused, after_checks}
use Rattle.days.specs.Due.{due_month, due_series, due_at}
use Rattle.promise.specs.Same.{Agree, SameAsked, marks, ticks, looks, futures, options}

abbrev mark_at : ℕ → Kind → AcceptedMark
mark_at t k = record { time = t; kind = k }

same_mark : (x y : AcceptedMark) (xs ys : List AcceptedMark) → x.time ≡ y.time → x.kind ≡ y.kind → xs ≡ ys → x ∷ xs ≡ y ∷ ys
same_mark x y xs ys a b c =
    ap (λ (t : ℕ). mark_at t x.kind ∷ xs) a ∙ ap (λ (k : Kind). mark_at y.time k ∷ xs) b ∙ ap (λ (l : List AcceptedMark). y ∷ l) c

-- marks that agree are the same marks
pub agreed : (xs ys : List AcceptedMark) → Agree xs ys → xs ≡ ys
agreed [] [] h = refl
agreed [] (y ∷ ys) h = absurd h
agreed (x ∷ xs) [] h = absurd h
agreed (x ∷ xs) (y ∷ ys) h = same_mark x y xs ys h.0 h.1 (agreed xs ys h.2)

module _ (m : Meaning) (p : ℕ) (ms : List AcceptedMark) (t : ℕ) where
  same_at : (a b : Asked) → SameAsked a b → due_at m p ms t a ≡ due_at m p ms t b
  same_at a b (marks {k} {q}) = refl
  same_at a b ticks = refl
  same_at a b looks = refl
  same_at a b (futures {c} {q} {xs} {ys} e) = ap (λ (f : Option FuturesMonth). due_month m p f q ms t) (e c)
  same_at a b (options {o} {ss} {us} {xs} {ys} e f) =
      ap (λ (s : Option OptionSeries). due_series m p s (underlying_in o.contract.code xs) ms t) (e o)
      ∙ ap (λ (u : Option FuturesMonth). due_series m p (series_in o us) (is_some u) ms t) (f (underlying_code o.contract.code))

same_form : (a b : Asked) → SameAsked a b → well_formed a ≡ well_formed b
same_form a b (marks {k} {q}) = refl
same_form a b ticks = refl
same_form a b looks = refl
same_form a b (futures e) = refl
same_form a b (options e f) = refl

same_timely : (k l t u : ℕ) → t ≡ u → k ≤ t → l ≤ u → (leb k t && leb t last_moment) ≡ (leb l u && leb u last_moment)
same_timely k l t u e g h =
    let a = le-leb k t g in
    let b = le-leb l u h in
    cc

pub same_told : (m : Meaning) (p : ℕ) (ms ns : List AcceptedMark) (k l : ℕ) (c e : CallData) → ms ≡ ns → c.time ≡ e.time → SameAsked c.asked e.asked
    → k ≤ c.time → l ≤ e.time → after_checks k c (due_at m p ms c.time c.asked) ≡ after_checks l e (due_at m p ns e.time e.asked)
same_told m p ms ns k l c e is at asks g h =
    let told = same_at m p ms c.time c.asked e.asked asks in
    let here : due_at m p ms c.time e.asked ≡ due_at m p ns e.time e.asked = cc in
    let form = same_form c.asked e.asked asks in
    let time = same_timely k l c.time e.time at g h in
    ap (λ (b : Bool). cond b (cond (timely k c) (due_at m p ms c.time c.asked) (refused 20)) (refused 21)) form
    ∙ ap (λ (b : Bool). cond (well_formed e.asked) (cond b (due_at m p ms c.time c.asked) (refused 20)) (refused 21)) time
    ∙ ap (λ (a : Told). cond (well_formed e.asked) (cond (timely l e) a (refused 20)) (refused 21)) (told ∙ here)
