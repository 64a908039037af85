-- One change after another.
use Rattle.std.proofs.Common.{◌≡◌, ℕ, ◌+◌, ◌-◌, ◌<◌, ◌≤◌, Bool, List, [], length, get_or, take, drop, sym, ap, ◌∙◌, arith}
use Rattle.std.proofs.lemmas.List.{drop-drop}
use Rattle.std.proofs.lemmas.List.Sums.{fold_more}
use Rattle.roster_laws.specs.declared.changes.Change.{Change}
use Rattle.roster_laws.specs.Changing.{changed, standing}

-- the entries xs after one change more are ys
pub one_more : {L : Type 0} (sound : L → Bool) (same : L → L → Bool) (room r : ℕ) (cs : List (Change L)) (i : ℕ) (c : Change L) (xs ys : List L) → r ≡ room → i < length cs → c ≡ get_or cs i c → xs ≡ standing sound same room (take i cs) → ys ≡ changed sound same r xs c → ys ≡ standing sound same room (take (i + 1) cs)
one_more sound same room r cs i c xs ys same_room h read was now =
    let step = fold_more (changed sound same room) [] cs i c h in
    cc

-- what is the same from the m-th on is the same from a later one on
pub drop_later : {X : Type 0} (xs ys : List X) (m n : ℕ) → m ≤ n → drop m xs ≡ drop m ys → drop n xs ≡ drop n ys
drop_later {X} xs ys m n h e =
    let k : m + (n - m) ≡ n = omega arith in
    ap (λ (j : ℕ). drop j xs) (sym k) ∙ sym (drop-drop (n - m) m xs) ∙ ap (drop (n - m)) e ∙ drop-drop (n - m) m ys ∙ ap (λ (j : ℕ). drop j ys) k
