-- After the last change: all that holds of the places.
use Rattle.std.proofs.Common.{◌≡◌, ℕ, ◌≤◌, Bool, List, [], length, take, drop, sym, ap, ◌∙◌, subst, arith}
use Rattle.std.proofs.lemmas.List.{length-take-le}
use Rattle.roster_laws.specs.declared.changes.Change.{Change}
use Rattle.roster_laws.specs.Changing.{standing}
use Rattle.roster_laws.specs.Laws.{Equivalence, Apart, Formed, Applied}
use Rattle.roster_laws.proofs.Aparts.{apart_all}
use Rattle.roster_laws.proofs.Forms.{formed_all}
use Rattle.roster_laws.proofs.Orders.{in_order}

pub applied : {L : Type 0} (sound : L → Bool) (same : L → L → Bool) (eq : Equivalence same) (room : ℕ) (before after places : List L) (cs : List (Change L)) (len count : ℕ) → after ≡ places → take len places ≡ standing sound same room cs → count ≡ len → len ≤ room → len ≤ length places → drop room places ≡ drop room before → Applied sound same room before after cs count
applied {L} sound same eq room before after places cs len count is stand counted few within beyond =
    let entries : take count after ≡ standing sound same room cs = ap (take count) is ∙ ap (λ (n : ℕ). take n places) counted ∙ stand in
    record {
      many = counted ∙ sym (length-take-le len places within) ∙ ap length stand;
      few = omega arith;
      entries = entries;
      beyond = ap (drop room) is ∙ beyond;
      order = in_order sound same room eq cs;
      apart = subst (Apart same) (sym entries) (apart_all sound same room eq [] cs tt);
      formed = subst (Formed sound) (sym entries) (formed_all sound same room [] cs tt);
      equivalence = eq;
    }
