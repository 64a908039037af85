-- The first window that has a mean, and its first tier, are what an answer is to say.
use Rattle.std.proofs.Common.{◌≡◌, ℕ, zero, suc, ◌+◌, ◌<◌, List, Some, None, Ok, Err, Option, sym, refl, ap, ◌∙◌, subst, inl, inr, arith}
use Rattle.std.specs.Option.{option_map, ok_or}
use Rattle.std.proofs.lemmas.Bool.{cases_eq}
use Rattle.tape.specs.declared.fault.TapeFault.{TapeFault}
use Rattle.tape.specs.Codes.{refused, tape_refusal}
use Rattle.tape.specs.Format.{Plain}
use Rattle.tape.specs.Reading.{sound, faulty, parse, count}
use Rattle.tape.specs.Sound.{Sound, Verdict}
use Rattle.tape.proofs.Means.{Bytes, verdict}
use Rattle.reference.specs.declared.finding.Tier.{Tier}
use Rattle.reference.specs.declared.finding.Tier.TheVariants.{Trades, Quotes}
use Rattle.reference.specs.declared.finding.Request.{Request}
use Rattle.reference.specs.declared.finding.Reference.{Reference}
use Rattle.reference.specs.Finding.{tier_number, answer, else_by, tiers, first_tier, means_of, window, first_window, searched}
use Rattle.reference.specs.Meaning.{Bare, Refers, Found, Nothing}

abbrev first_of : Option ℕ → Option ℕ → ℕ → Option Reference
first_of a b w = else_by (option_map (answer Trades w) a) (else_by (option_map (answer Quotes w) b) None)

-- what is true of the first tier's reference
abbrev Says : (Tier → Option ℕ) → ℕ → Reference → Type 0
Says means w x = (x.windows ≡ w) × (means x.tier ≡ Some x.price) × ((t : Tier) → tier_number t < tier_number x.tier → means t ≡ None)

before_trades : (means : Tier → Option ℕ) (t : Tier) → tier_number t < 1 → means t ≡ None
before_trades means Trades h = absurd (omega arith)
before_trades means Quotes h = absurd (omega arith)

before_quotes : (means : Tier → Option ℕ) (t : Tier) → means Trades ≡ None → tier_number t < 2 → means t ≡ None
before_quotes means Trades e h = e
before_quotes means Quotes e h = absurd (omega arith)

says_at : (means : Tier → Option ℕ) (w : ℕ) (x : Reference) (a b : Option ℕ) → means Trades ≡ a → means Quotes ≡ b → first_of a b w ≡ Some x → Says means w x
says_at means w x (Some p) b ea eb h =
    let e : answer Trades w p ≡ x = cc in
    subst (Says means w) e (refl, ea, before_trades means)
says_at means w x None (Some p) ea eb h =
    let e : answer Quotes w p ≡ x = cc in
    subst (Says means w) e (refl, eb, λ t. before_quotes means t ea)
says_at means w x None None ea eb h = absurd (let z : ◌≡◌ {A = ℕ} 0 1 = cc in omega arith)

none_at : (means : Tier → Option ℕ) (w : ℕ) (a b : Option ℕ) → means Trades ≡ a → means Quotes ≡ b → first_of a b w ≡ None → (t : Tier) → means t ≡ None
none_at means w (Some p) b ea eb h t = absurd (let z : ◌≡◌ {A = ℕ} 0 1 = cc in omega arith)
none_at means w None (Some p) ea eb h t = absurd (let z : ◌≡◌ {A = ℕ} 0 1 = cc in omega arith)
none_at means w None None ea eb h Trades = ea
none_at means w None None ea eb h Quotes = eb

module _ (s : List ℕ) (c : ℕ) (rs : List Plain) where
  bare_more : (w v : ℕ) → ((t : Tier) → means_of (window s c w rs) t ≡ None) → Bare s c rs (w + 1) v → Bare s c rs w v
  bare_more w v here rest n low high t =
      elim (cases_eq n w) [
        | inl is ↦ ap (λ n. means_of (window s c n rs) t) is ∙ here t
        | inr other ↦ rest n (omega arith) high t
      ]

  refers_here : (w : ℕ) (x : Reference) → Says (means_of (window s c w rs)) w x → Refers s c rs w x
  refers_here w x h =
      let back = sym h.0 in
      record {
        from = omega (arith, h.0);
        price = subst (λ n. means_of (window s c n rs) x.tier ≡ Some x.price) back h.1;
        narrower = λ n low high t. absurd (omega (arith, h.0));
        earlier = λ t less. subst (λ n. means_of (window s c n rs) t ≡ None) back (h.2 t less);
      }

  wider : (w : ℕ) (x : Reference) → ((t : Tier) → means_of (window s c w rs) t ≡ None) → Refers s c rs (w + 1) x → Refers s c rs w x
  wider w x here h = record { from = omega (arith, h.from); price = h.price; narrower = bare_more w x.windows here h.narrower; earlier = h.earlier }

  says_from : (w n : ℕ) (x : Reference) (o : Option Reference) → first_tier (means_of (window s c w rs)) w tiers ≡ o → else_by o (first_window s c rs (w + 1) n) ≡ Some x → (first_window s c rs (w + 1) n ≡ Some x → Refers s c rs (w + 1) x × (x.windows < w + 1 + n)) → Refers s c rs w x × (x.windows < w + suc n)
  says_from w n x (Some y) e g ih =
      let m = means_of (window s c w rs) in
      let says = says_at m w x (m Trades) (m Quotes) refl refl (e ∙ g) in
      (refers_here w x says, omega (arith, says.0))
  says_from w n x None e g ih =
      let m = means_of (window s c w rs) in
      let rest = ih g in
      (wider w x (none_at m w (m Trades) (m Quotes) refl refl e) rest.0, omega (arith, rest.1))

  window_says : (w n : ℕ) (x : Reference) → first_window s c rs w n ≡ Some x → Refers s c rs w x × (x.windows < w + n)
  window_says w zero x h = absurd (let z : ◌≡◌ {A = ℕ} 0 1 = cc in omega arith)
  window_says w (suc n) x h = says_from w n x (first_tier (means_of (window s c w rs)) w tiers) refl h (window_says (w + 1) n x)

  bare_from : (w n : ℕ) (o : Option Reference) → first_tier (means_of (window s c w rs)) w tiers ≡ o → else_by o (first_window s c rs (w + 1) n) ≡ None → (first_window s c rs (w + 1) n ≡ None → Bare s c rs (w + 1) (w + 1 + n)) → Bare s c rs w (w + suc n)
  bare_from w n (Some y) e g ih = absurd (let z : ◌≡◌ {A = ℕ} 0 1 = cc in omega arith)
  bare_from w n None e g ih =
      let m = means_of (window s c w rs) in
      let more : w + 1 + n ≡ w + suc n = omega arith in
      bare_more w (w + suc n) (none_at m w (m Trades) (m Quotes) refl refl e) (subst (Bare s c rs (w + 1)) more (ih g))

  window_bare : (w n : ℕ) → first_window s c rs w n ≡ None → Bare s c rs w (w + n)
  window_bare w zero h = λ k low high t. absurd (omega arith)
  window_bare w (suc n) h = bare_from w n (first_tier (means_of (window s c w rs)) w tiers) refl h (window_bare (w + 1) n)

some_of : (o : Option Reference) (x : Reference) → Ok x ≡ ok_or o (refused 9) → o ≡ Some x
some_of (Some y) x h = cc
some_of None x h = absurd (let z : ◌≡◌ {A = ℕ} 0 1 = cc in omega arith)

none_of : (o : Option Reference) → Err (refused 9) ≡ ok_or o (refused 9) → o ≡ None
none_of (Some y) h = absurd (let z : ◌≡◌ {A = ℕ} 0 1 = cc in omega arith)
none_of None h = refl

module _ (q : Request) (b : List ℕ) (rs : List Plain) (parsed : parse b ≡ sound rs) (whole : Sound b rs) where
  as_read : (w n : ℕ) → searched q.symbol.now q.close (parse b) w n ≡ ok_or (first_window q.symbol.now q.close rs w n) (refused 9)
  as_read w n = ap (λ o. searched q.symbol.now q.close o w n) parsed

  pub found_means : (x : Reference) → Ok x ≡ searched q.symbol.now q.close (parse b) 1 q.windows → Found q b x
  found_means x h =
      let m = window_says q.symbol.now q.close rs 1 q.windows x (some_of (first_window q.symbol.now q.close rs 1 q.windows) x (h ∙ as_read 1 q.windows)) in
      record { records = rs; whole = whole; refers = m.0; within = omega (arith, m.1) }

  pub nothing_means : Err (refused 9) ≡ searched q.symbol.now q.close (parse b) 1 q.windows → Nothing q b
  nothing_means h =
      let m = window_bare q.symbol.now q.close rs 1 q.windows (none_of (first_window q.symbol.now q.close rs 1 q.windows) (h ∙ as_read 1 q.windows)) in
      record { records = rs; whole = whole; bare = λ n low high. m n low (omega arith) }

pub fault_means : (b : List ℕ) (e : TapeFault) → Bytes b → parse b ≡ faulty (tape_refusal e) → Verdict b (Err e)
fault_means b e bytes h = verdict b (Err e) bytes (ap (count 0) (sym h))
