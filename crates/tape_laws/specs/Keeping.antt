-- Records offered one after another to a new tape: which of them it keeps, and what the buffer holds then.
use Rattle.std.specs.Prelude.{◌≡◌, ℕ, ◌+◌, Bool, cond, List, [], ◌∷◌, ◌++◌, length, take, drop, is_ok, Ok, Err, Result}
use Rattle.tape.specs.declared.fault.WriteFault.{WriteFault}
use Rattle.tape.specs.declared.fault.WriteFault.TheVariants.{Unfit, Full}
use Rattle.tape.specs.Format.{Plain, time_of, size_of, tape_of}
use Rattle.tape.specs.Reading.{parse, sound}
use Rattle.tape.specs.Sound.{Sound}
use Rattle.tape.specs.Writing.{answer}
use Rattle.tape_laws.specs.declared.write.Written.{Written}

abbrev pub accepts : ℕ → ℕ → ℕ → Plain → Bool
accepts room p last r = is_ok (answer room p last r)

-- those that are accepted, from the place p on, after a record of time `last`
abbrev pub kept : ℕ → ℕ → ℕ → List Plain → List Plain
kept room p last [] = []
kept room p last (r ∷ rs) = cond (accepts room p last r) (r ∷ kept room (p + size_of r) (time_of r) rs) (kept room p last rs)

-- xs with ys written over its front
abbrev pub overlaid : List ℕ → List ℕ → List ℕ
overlaid ys xs = ys ++ drop (length ys) xs

-- the tape of the records ks stands at the front of the buffer, and reads back as them
pub record Holds (before after : List ℕ) (ks : List Plain) (bytes records : ℕ) : Type 0 where
  pub buffer : after ≡ overlaid (tape_of ks) before
  pub long : bytes ≡ length (tape_of ks)
  pub many : records ≡ length ks
  pub tape : take bytes after ≡ tape_of ks
  pub whole : Sound (tape_of ks) ks
  pub reads : parse (take bytes after) ≡ sound ks

-- a buffer with no byte is refused and left alone
abbrev pub Keeps : List ℕ → List ℕ → List Plain → Result Written WriteFault → Type 0
Keeps before after rs (Ok w) = Holds before after (kept (length before) 1 0 rs) w.bytes w.records
Keeps before after rs (Err Full) = (length before ≡ 0) × (after ≡ before)
Keeps before after rs (Err (Unfit f)) = ⊥
