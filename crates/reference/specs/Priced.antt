-- Priced things: weight, value and divisor, the sums of a row of records, and their mean.
use Rattle.std.specs.Prelude.{ℕ, ◌+◌, ◌-◌, ◌*◌, ◌/◌, ◌≤◌, cond, List, Some, None, sum_by, Option, ◌==◌, nat_le}
use Rattle.tape.specs.Format.{Plain, trade, quote}
use Rattle.reference.specs.declared.priced.Trade.{Trade}
use Rattle.reference.specs.declared.priced.Quote.{Quote}

-- a quote counts once where offer minus bid is at most `width`
abbrev pub narrow : ℕ → ℕ → ℕ → ℕ
narrow width bid offer = cond (nat_le (offer - bid) width) 1 0

abbrev pub as_trade : Plain → Option Trade
as_trade (trade t p v s) = Some (record { price = p; volume = v })
as_trade (quote t b o s) = None

abbrev pub as_quote : Plain → Option Quote
as_quote (trade t p v s) = None
as_quote (quote t b o s) = Some (record { bid = b; offer = o })

-- what keeps the sums small and the mean a price
abbrev pub Fair : ℕ → ℕ → ℕ → Type 0
Fair shares weight value = (weight ≤ 1000000) × (value ≤ 20000000 * shares)

-- what a kind of priced thing makes of a record: records of other kinds weigh nothing
pub record Kind : Type 0 where
  pub weight : Plain → ℕ
  pub value : Plain → ℕ
  pub divisor : ℕ

abbrev pub weighed : {X : Type 0} → (X → ℕ) → Option X → ℕ
weighed f None = 0
weighed f (Some x) = f x

abbrev pub kind_of : {X : Type 0} → (Plain → Option X) → (X → ℕ) → (X → ℕ) → ℕ → Kind
kind_of among weighs worth shares = record { weight = λ r. weighed weighs (among r); value = λ r. weighed worth (among r); divisor = shares }

abbrev pub trade_kind : Kind
trade_kind = kind_of as_trade (λ x. x.volume) (λ x. x.price) 1

abbrev pub quote_kind : Kind
quote_kind = kind_of as_quote (λ x. narrow 3000 x.bid x.offer) (λ x. x.bid + x.offer) 2

-- the total divided by divisor times weights, rounded down; absent where nothing weighs anything
abbrev pub mean_of : ℕ → ℕ → ℕ → Option ℕ
mean_of divisor total weights = cond (weights == 0) None (Some (total / (divisor * weights)))

-- the sums of weight times value and of the weights
abbrev pub total_of : Kind → List Plain → ℕ
total_of k rs = sum_by (λ r. k.weight r * k.value r) rs

abbrev pub weights_of : Kind → List Plain → ℕ
weights_of k rs = sum_by k.weight rs

abbrev pub mean : Kind → List Plain → Option ℕ
mean k rs = mean_of k.divisor (total_of k rs) (weights_of k rs)
