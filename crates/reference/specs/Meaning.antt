-- What each answer to a request says of the tape.
use Rattle.std.specs.Prelude.{◌≡◌, ℕ, ◌<◌, ◌≤◌, true, false, List, Some, None, Ok, Err, Result}
use Rattle.tape.specs.Format.{Plain}
use Rattle.tape.specs.Sound.{Sound, Verdict}
use Rattle.reference.specs.declared.fault.ReferenceFault.{ReferenceFault}
use Rattle.reference.specs.declared.fault.ReferenceFault.TheVariants.{Tape, Request as Unfit, NoMean}
use Rattle.reference.specs.declared.finding.Tier.{Tier}
use Rattle.reference.specs.declared.finding.Request.{Request}
use Rattle.reference.specs.declared.finding.Reference.{Reference}
use Rattle.reference.specs.Finding.{tier_number, means_of, window, fit}

-- no tier has a mean in the windows from w up to but without v
abbrev pub Bare : List ℕ → ℕ → List Plain → ℕ → ℕ → Type 0
Bare symbol close rs w v = (n : ℕ) → w ≤ n → n < v → (t : Tier) → means_of (window symbol close n rs) t ≡ None

-- the price is the mean of its tier in its window, and no narrower window and no earlier tier there has one
pub record Refers (symbol : List ℕ) (close : ℕ) (rs : List Plain) (w : ℕ) (x : Reference) : Type 0 where
  pub from : w ≤ x.windows
  pub price : means_of (window symbol close x.windows rs) x.tier ≡ Some x.price
  pub narrower : Bare symbol close rs w x.windows
  pub earlier : (t : Tier) → tier_number t < tier_number x.tier → means_of (window symbol close x.windows rs) t ≡ None

pub record Found (q : Request) (b : List ℕ) (x : Reference) : Type 0 where
  pub records : List Plain
  pub whole : Sound b records
  pub refers : Refers q.symbol.now q.close records 1 x
  pub within : x.windows ≤ q.windows

pub record Nothing (q : Request) (b : List ℕ) : Type 0 where
  pub records : List Plain
  pub whole : Sound b records
  pub bare : (n : ℕ) → 1 ≤ n → n ≤ q.windows → (t : Tier) → means_of (window q.symbol.now q.close n records) t ≡ None

-- a fault of the tape comes whole
abbrev pub Answers : Request → List ℕ → Result Reference ReferenceFault → Type 0
Answers q b (Ok x) = (fit q ≡ true) × Found q b x
Answers q b (Err Unfit) = fit q ≡ false
Answers q b (Err (Tape e)) = (fit q ≡ true) × Verdict b (Err e)
Answers q b (Err NoMean) = (fit q ≡ true) × Nothing q b
