-- What holds of a roster that was made empty and changed only by its calls.
use Rattle.std.specs.Prelude.{◌≡◌, ℕ, ◌≤◌, Bool, true, false, List, [], ◌∷◌, length, take, drop}
use Rattle.roster_laws.specs.declared.changes.Change.{Change}
use Rattle.roster_laws.specs.Changing.{any, standing, made_from, remaining}

-- sameness is an equivalence
pub record Equivalence {L : Type 0} (same : L → L → Bool) : Type 0 where
  pub reflexive : (x : L) → same x x ≡ true
  pub symmetric : (x y : L) → same x y ≡ true → same y x ≡ true
  pub transitive : (x y z : L) → same x y ≡ true → same y z ≡ true → same x z ≡ true

-- no two entries are the same
abbrev pub Apart : {L : Type 0} → (L → L → Bool) → List L → Type 0
Apart same [] = Unit {0}
Apart same (x ∷ xs) = (any (same x) xs ≡ false) × Apart same xs

-- every entry is well formed
abbrev pub Formed : {L : Type 0} → (L → Bool) → List L → Type 0
Formed sound [] = Unit {0}
Formed sound (x ∷ xs) = (sound x ≡ true) × Formed sound xs

-- places before and after the changes cs: the entries stand in the first `count` of them, and none past the room is touched
pub record Applied {L : Type 0} (sound : L → Bool) (same : L → L → Bool) (room : ℕ) (before after : List L) (cs : List (Change L)) (count : ℕ) : Type 0 where
  pub many : count ≡ length (standing sound same room cs)
  pub few : count ≤ room
  pub entries : take count after ≡ standing sound same room cs
  pub beyond : drop room after ≡ drop room before
  pub order : standing sound same room cs ≡ remaining same (made_from sound same room [] cs)
  pub apart : Apart same (take count after)
  pub formed : Formed sound (take count after)
  pub equivalence : Equivalence same
