-- Worked examples of the reference price, at the close 55,800,000.
use Rattle.std.specs.Prelude.{◌≡◌, ℕ, List, [], ◌∷◌, Ok, Err, Result}
use Rattle.tape.specs.Codes.{Refusal, refused}
use Rattle.tape.specs.Format.{Plain, trade, quote}
use Rattle.tape.specs.Reading.{sound}
use Rattle.reference.specs.declared.finding.Reference.{Reference}
use Rattle.reference.specs.declared.finding.Tier.TheVariants.{Trades, Quotes}
use Rattle.reference.specs.Finding.{answer, searched}

-- the symbols NK and N
abbrev pub nk : List ℕ
nk = 78 ∷ 75 ∷ []

abbrev pub prefix : List ℕ
prefix = 78 ∷ []

-- what at most k windows give
abbrev pub given : ℕ → List Plain → Result Reference Refusal
given k rs = searched nk 55800000 (sound rs) 1 k

pub record Examples : Type 0 where
  -- 38,125 once and 38,135 twice: 38,131.66
  pub trades : given 1 (trade 55770000 3812500 1 nk ∷ trade 55799999 3813500 2 nk ∷ []) ≡ Ok (answer Trades 1 3813166)
  -- the third quote is wider than 30 points: 38,118.75
  pub quotes : given 1 (quote 55770000 3812000 3812500 nk ∷ quote 55770000 3810000 3813000 nk ∷ quote 55770000 3810000 3813500 nk ∷ []) ≡ Ok (answer Quotes 1 3811875)
  -- 30,000 before the close lies in window 1, one millisecond earlier does not; nor does the close
  pub begin : given 1 (trade 55769999 3812500 1 nk ∷ trade 55770000 3813500 1 nk ∷ []) ≡ Ok (answer Trades 1 3813500)
  pub end : given 20 (trade 55800000 3812500 1 nk ∷ []) ≡ Err (refused 9)
  -- trades go before quotes in a window, and a narrow window before a wider one
  pub tiers : given 1 (quote 55770000 3812000 3812500 nk ∷ trade 55770000 3813500 1 nk ∷ []) ≡ Ok (answer Trades 1 3813500)
  pub narrow : given 2 (trade 55740000 3813500 1 nk ∷ quote 55770000 3812000 3812500 nk ∷ []) ≡ Ok (answer Quotes 1 3812250)
  -- the first mean only in window 3
  pub third : given 20 (trade 55710000 3812500 1 nk ∷ []) ≡ Ok (answer Trades 3 3812500)
  -- only wide quotes
  pub wide : given 20 (quote 55770000 3810000 3813500 nk ∷ []) ≡ Err (refused 9)
  -- a symbol that the asked one begins with does not count
  pub other : given 20 (trade 55770000 3812500 1 prefix ∷ []) ≡ Err (refused 9)
