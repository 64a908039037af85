-- One record after another is offered: what a turn of that loop keeps.
use Rattle.std.proofs.Common.{◌≡◌, ℕ, ◌+◌, ◌<◌, ◌≤◌, Bool, true, false, cond, List, [], ◌∷◌, ◌++◌, map, length, get_or, drop, set, sym, refl, ap, ◌∙◌, subst, append_assoc, append-nil, arith, length-append}
use Rattle.std.proofs.lemmas.List.{at_drop_more, at_drop_all, length-map, get_or-map, length-set}
use Rattle.std.proofs.lemmas.Bool.Decides.{nat_tests}
use Rattle.tape.specs.declared.record.Record.{Record}
use Rattle.tape.specs.declared.writer.End.{End}
use Rattle.tape.specs.Format.{Plain, plain, time_of, size_of, good_symbol, good_fields, encode, tape_of}
use Rattle.tape.specs.Reading.{parse}
use Rattle.tape.specs.Sound.{InOrder, latest}
use Rattle.tape.specs.Writing.{splice, end_after}
use Rattle.tape_laws.specs.Keeping.{accepts, kept, overlaid, Holds}
use Rattle.tape.proofs.Back.{reads_back}
use Rattle.tape_laws.proofs.Filling.{Filled, filled_none, started, filled_long, filled_tape, filled_more, inorder_more, latest_more}

-- after the first i of the records rs, the tape holds `done`
pub record Kept (before : List ℕ) (rs : List Plain) (i : ℕ) (buffer : List ℕ) (end : End) (records : ℕ) : Type 0 where
  pub done : List Plain
  pub filled : Filled before done buffer end.place
  pub short : end.place ≤ 1048576
  pub inorder : InOrder 0 done
  pub time : end.time ≡ latest 0 done
  pub many : records ≡ length done
  pub few : records ≤ i
  pub left : done ++ kept (length before) end.place end.time (drop i rs) ≡ kept (length before) 1 0 rs

pub kept_none : (b : List ℕ) (rs : List Plain) (e : End) → get_or b 0 0 ≡ 1 → e.place ≡ 1 → e.time ≡ 0 → Kept b rs 0 b e 0
kept_none b rs e some p t =
    record {
      done = [];
      filled = subst (Filled b [] b) (sym p) (filled_none b some);
      short = omega arith;
      inorder = tt;
      time = t;
      many = refl;
      few = omega arith;
      left = ap (λ q. kept (length b) q e.time rs) p ∙ ap (λ q. kept (length b) 1 q rs) t;
    }

pub record Accepted (room p last : ℕ) (r : Plain) : Type 0 where
  pub symbol : good_symbol r ≡ true
  pub fields : good_fields r ≡ true
  pub timely : last ≤ time_of r
  pub fits : p + size_of r ≤ room
  pub short : p + size_of r ≤ 1048576

pub accepted : (room p last : ℕ) (r : Plain) → accepts room p last r ≡ true → Accepted room p last r
accepted room p last r h = record { symbol = grind (arith, nat_tests); fields = grind (arith, nat_tests); timely = grind (arith, nat_tests); fits = grind (arith, nat_tests); short = grind (arith, nat_tests) }

module _ (before : List ℕ) (rs : List Plain) (i : ℕ) (buffer : List ℕ) (end : End) (records : ℕ) (h : Kept before rs i buffer end records) (r : Plain) (lt : i < length rs) (is : get_or rs i r ≡ r) where
  long : length buffer ≡ length before
  long = filled_long before h.done buffer end.place h.filled

  on : kept (length before) end.place end.time (drop i rs) ≡ cond (accepts (length before) end.place end.time r) (r ∷ kept (length before) (end.place + size_of r) (time_of r) (drop (i + 1) rs)) (kept (length before) end.place end.time (drop (i + 1) rs))
  on =
      at_drop_more (kept (length before) end.place end.time) rs i r lt
      ∙ ap (λ x. kept (length before) end.place end.time (x ∷ drop (i + 1) rs)) is

  pub kept_more : (t : Bool) → accepts (length buffer) end.place end.time r ≡ t → Kept before rs (i + 1) (cond t (splice end.place (encode r) buffer) buffer) (cond t (end_after end r) end) (records + cond t 1 0)
  kept_more true told =
      let same = ap (λ n. accepts n end.place end.time r) (sym long) ∙ told in
      let a = accepted (length before) end.place end.time r same in
      record {
        done = h.done ++ r ∷ [];
        filled = filled_more before h.done buffer end.place h.filled r a.fits;
        short = a.short;
        inorder = inorder_more 0 h.done r h.inorder a.symbol a.fields (omega (arith, h.time, a.timely));
        time = sym (latest_more 0 h.done r);
        many = omega (arith, h.many, length-append h.done (r ∷ []));
        few = omega (arith, h.few);
        left =
            append_assoc h.done (r ∷ []) (kept (length before) (end.place + size_of r) (time_of r) (drop (i + 1) rs))
            ∙ ap (λ l. h.done ++ l) (sym (on ∙ ap (λ b. cond b (r ∷ kept (length before) (end.place + size_of r) (time_of r) (drop (i + 1) rs)) (kept (length before) end.place end.time (drop (i + 1) rs))) same)) ∙ h.left;
      }
  kept_more false told =
      let same = ap (λ n. accepts n end.place end.time r) (sym long) ∙ told in
      record {
        done = h.done;
        filled = h.filled;
        short = h.short;
        inorder = h.inorder;
        time = h.time;
        many = omega (arith, h.many);
        few = omega (arith, h.few);
        left =
            ap (λ l. h.done ++ l) (sym (on ∙ ap (λ b. cond b (r ∷ kept (length before) (end.place + size_of r) (time_of r) (drop (i + 1) rs)) (kept (length before) end.place end.time (drop (i + 1) rs))) same)) ∙ h.left;
      }

pub kept_all : (before : List ℕ) (rs : List Plain) (i : ℕ) (buffer : List ℕ) (end : End) (records : ℕ) → Kept before rs i buffer end records → length rs ≤ i → Holds before buffer (kept (length before) 1 0 rs) end.place records
kept_all before rs i buffer end records h le =
    let all : h.done ≡ kept (length before) 1 0 rs =
    sym (append-nil h.done) ∙ ap (λ l. h.done ++ l) (sym (at_drop_all (kept (length before) end.place end.time) rs i le)) ∙ h.left in
    let tape = filled_tape before h.done buffer end.place h.filled in
    let short : length (tape_of h.done) ≤ 1048576 = omega (arith, h.short, h.filled.end) in
    subst (λ ks. Holds before buffer ks end.place records) all
    (record {
      buffer = h.filled.bytes;
      long = h.filled.end;
      many = h.many;
      tape = tape;
      whole = record { bytes = refl; inorder = h.inorder; short = short };
      reads = ap parse tape ∙ reads_back h.done h.inorder short;
    })

-- one more of the items was offered, and taken where t is true
pub kept_turn : (before : List ℕ) (items : List Record) (d : Record) (i : ℕ) (buffer : List ℕ) (end : End) (records : ℕ) → Kept before (map plain items) i buffer end records → i < length items → (t : Bool) → accepts (length buffer) end.place end.time (plain (get_or items i d)) ≡ t → (buffer' : List ℕ) (end' : End) (n : ℕ) → n ≡ cond t 1 0 → buffer' ≡ cond t (splice end.place (encode (plain (get_or items i d))) buffer) buffer → end' ≡ cond t (end_after end (plain (get_or items i d))) end → Kept before (map plain items) (i + 1) buffer' end' (records + n)
kept_turn before items d i buffer end records h lt t told buffer' end' n ns bs es =
    let r = plain (get_or items i d) in
    let rs = map plain items in
    let more = kept_more before rs i buffer end records h r (simp length-map lt) (get_or-map plain items i d r lt) t told in
    let b = cond t (splice end.place (encode r) buffer) buffer in
    let e = cond t (end_after end r) end in
    subst (λ x. Kept before rs (i + 1) x end' (records + n)) (sym bs)
    (subst (λ x. Kept before rs (i + 1) b x (records + n)) (sym es) (subst (λ x. Kept before rs (i + 1) b e (records + x)) (sym ns) more))

-- the version byte was written before the first record
pub holds_started : (b start after : List ℕ) (rs : List Plain) (bytes records : ℕ) → start ≡ set b 0 1 → Holds start after (kept (length start) 1 0 rs) bytes records → Holds b after (kept (length b) 1 0 rs) bytes records
holds_started b start after rs bytes records is h =
    let long : length start ≡ length b = ap length is ∙ length-set b 0 1 in
    let at = subst (λ n. Holds start after (kept n 1 0 rs) bytes records) long h in
    record {
      buffer = at.buffer ∙ ap (overlaid (tape_of (kept (length b) 1 0 rs))) is ∙ started (kept (length b) 1 0 rs) b;
      long = at.long;
      many = at.many;
      tape = at.tape;
      whole = at.whole;
      reads = at.reads;
    }
