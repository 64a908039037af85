-- What a writer does with one record: its answer, and the buffer and the tape's end afterwards.
use Rattle.std.specs.Prelude.{ℕ, ◌+◌, min, cond, List, ◌++◌, length, take, drop, Ok, Err, Result, nat_le}
use Rattle.tape.specs.declared.writer.End.{End}
use Rattle.tape.specs.Codes.{Refusal, refused, refused_at}
use Rattle.tape.specs.Format.{Plain, time_of, size_of, good_symbol, good_fields}

-- xs with ys written over it from a place on
abbrev pub splice : ℕ → List ℕ → List ℕ → List ℕ
splice at ys xs = take at xs ++ (ys ++ drop (at + length ys) xs)

-- whether a record may stand at the place p, after a record of time `last`
abbrev pub fitness : ℕ → ℕ → Plain → Result (Unit {0}) Refusal
fitness p last r =
    cond (good_symbol r)
    (cond (good_fields r) (cond (nat_le last (time_of r)) (Ok tt) (Err (refused_at 6 p))) (Err (refused_at 5 p)))
    (Err (refused_at 4 p))

abbrev pub roomy : ℕ → ℕ → Result (Unit {0}) Refusal
roomy end room = cond (nat_le end (min room 1048576)) (Ok tt) (Err (refused 12))

abbrev pub after : {T E : Type 0} → Result (Unit {0}) E → Result T E → Result T E
after (Ok u) k = k
after (Err e) k = Err e

-- the answer to a record, in a buffer of `room` bytes
abbrev pub answer : ℕ → ℕ → ℕ → Plain → Result (Unit {0}) Refusal
answer room p last r = after (fitness p last r) (roomy (p + size_of r) room)

-- whether the version byte has a place
abbrev pub opening : ℕ → Result (Unit {0}) Refusal
opening room = cond (nat_le 1 room) (Ok tt) (Err (refused 12))

-- the end of a tape behind one more record
abbrev pub end_after : End → Plain → End
end_after e r = record { place = e.place + size_of r; time = time_of r }
