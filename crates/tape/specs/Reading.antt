-- What a reader makes of bytes: the record at their front, the next step from a place, and all steps of a tape.
use Rattle.std.specs.Prelude.{◌≡◌, ℕ, zero, suc, ◌+◌, ◌*◌, ◌≤◌, cond, List, [], ◌∷◌, length, take, drop, Some, None, Ok, Err, Option, Result, ◌==◌, nat_le, slice_index}
use Rattle.tape.specs.declared.fault.Flaw.{Flaw}
use Rattle.tape.specs.declared.fault.TapeFault.{TapeFault}
use Rattle.tape.specs.declared.record.Record.{Record}
use Rattle.tape.specs.declared.reader.Placed.{Placed}
use Rattle.tape.specs.declared.reader.Reader.{Reader}
use Rattle.tape.specs.Codes.{Refusal, refused, refused_at, flaw_number, flaw_at, tape_refusal}
use Rattle.tape.specs.Format.{Plain, trade, quote, plain, time_of, size_of, good_fields, within}

-- the big-endian numbers at a place
abbrev pub be2 : List ℕ → ℕ → ℕ
be2 b i = slice_index b i * 256 + slice_index b (i + 1)

abbrev pub be4 : List ℕ → ℕ → ℕ
be4 b i = slice_index b i * 16777216 + slice_index b (i + 1) * 65536 + slice_index b (i + 2) * 256 + slice_index b (i + 3)

abbrev pub fielded : Plain → Result Plain ℕ
fielded r = cond (good_fields r) (Ok r) (Err 5)

-- the record of a kind, a time, two numbers and a symbol, or the code of its flaw
abbrev pub judge : ℕ → ℕ → ℕ → ℕ → List ℕ → Result Plain ℕ
judge k t a b s = cond (k == 1) (fielded (trade t a b s)) (cond (k == 2) (fielded (quote t a b s)) (Err 3))

unfoldable pub decode : List ℕ → Result Plain ℕ
decode b = judge (slice_index b 0) (be4 b 1) (be4 b 5) (be4 b 9) (drop 13 b)

-- the record at the front of some bytes
abbrev pub front : List ℕ → Result Plain ℕ
front b =
    cond (nat_le 2 (length b))
    (cond (within 14 25 (be2 b 0)) (cond (nat_le (2 + be2 b 0) (length b)) (decode (take (be2 b 0) (drop 2 b))) (Err 2)) (Err 4))
    (Err 2)

-- a record read at the place p is refused there, also where it is earlier than `last`
abbrev pub timely : ℕ → ℕ → Result Plain ℕ → Result Plain Refusal
timely p last (Ok r) = cond (nat_le last (time_of r)) (Ok r) (Err (refused_at 6 p))
timely p last (Err k) = Err (refused_at k p)

abbrev pub plainly : Result Record Flaw → Result Plain ℕ
plainly (Ok r) = Ok (plain r)
plainly (Err e) = Err (flaw_number e)

abbrev pub plainly_at : ℕ → Result Record Flaw → Result Plain Refusal
plainly_at p (Ok r) = Ok (plain r)
plainly_at p (Err e) = Err (flaw_at p e)

-- what comes next: the end, a record with its place, or a refusal
pub data Step : Type 0 where
  over : Step
  one : ℕ → Plain → Step
  bad : Refusal → Step

abbrev pub stepped : ℕ → Result Plain Refusal → Step
stepped p (Ok r) = one p r
stepped p (Err f) = bad f

-- with the bytes b left, the first of them at the place p, after a record of time `last`
abbrev pub step : List ℕ → ℕ → ℕ → Step
step b p last = cond (length b == 0) over (stepped p (timely p last (front b)))

abbrev pub told : Result (Option Placed) TapeFault → Step
told (Ok None) = over
told (Ok (Some q)) = one q.place (plain q.record)
told (Err e) = bad (tape_refusal e)

-- a reader stands behind the record that it has read; an end or a refusal leaves it
abbrev pub place_after : Step → ℕ → ℕ
place_after over p = p
place_after (one q r) p = p + size_of r
place_after (bad e) p = p

abbrev pub time_after : Step → ℕ → ℕ
time_after over t = t
time_after (one q r) t = time_of r
time_after (bad e) t = t

-- a whole tape: its records, or the first refusal
pub data Outcome : Type 0 where
  sound : List Plain → Outcome
  faulty : Refusal → Outcome

abbrev pub put : Plain → Outcome → Outcome
put r (sound rs) = sound (r ∷ rs)
put r (faulty e) = faulty e

abbrev pub carry : Step → (Plain → Outcome) → Outcome
carry over k = sound []
carry (one p r) k = k r
carry (bad e) k = faulty e

-- the records that the bytes b hold; n is at least how many there are
abbrev pub walk : ℕ → List ℕ → ℕ → ℕ → Outcome
walk zero b p last = sound []
walk (suc n) b p last = carry (step b p last) (λ r. put r (walk n (drop (size_of r) b) (p + size_of r) (time_of r)))

abbrev pub parse : List ℕ → Outcome
parse b =
    cond (nat_le (length b) 1048576)
    (cond (slice_index b 0 == 1) (walk (length b) (drop 1 b) 1 0) (faulty (refused_at 1 0)))
    (faulty (refused 7))

-- how many records, or the refusal
abbrev pub count : ℕ → Outcome → Result ℕ Refusal
count n (sound rs) = Ok (n + length rs)
count n (faulty e) = Err e

-- a reader that was just started stands behind the version byte; a refusal is the tape's
abbrev pub Starts : List ℕ → Result Reader TapeFault → Type 0
Starts b (Ok r) = (length b ≤ 1048576) × (slice_index b 0 ≡ 1) × (r.tape.now ≡ b) × (r.at ≡ 1) × (r.last ≡ 0)
Starts b (Err e) = parse b ≡ faulty (tape_refusal e)
