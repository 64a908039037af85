-- Changes asked of a roster one after another: which it makes, and which entries stand then.
use Rattle.std.specs.Prelude.{ℕ, Bool, false, cond, ◌||◌, List, [], ◌∷◌, ◌++◌, length, is_ok, fold, nat_lt}
use Rattle.roster.specs.Checks.{list_answer, delist_answer}
use Rattle.roster.specs.Places.{place, holds, without}
use Rattle.roster_laws.specs.declared.changes.Change.{Change}
use Rattle.roster_laws.specs.declared.changes.Change.TheVariants.{Enter, Leave}

-- whether some of a list passes
abbrev pub any : {X : Type 0} → (X → Bool) → List X → Bool
any p [] = false
any p (x ∷ xs) = p x || any p xs

-- whether a change is made, where the entries xs stand and there is room for so many
abbrev pub made : {L : Type 0} → (L → Bool) → (L → L → Bool) → ℕ → List L → Change L → Bool
made sound same room xs (Enter x) = is_ok (list_answer (sound x) (holds (same x) xs) (nat_lt (length xs) room))
made sound same room xs (Leave x) = is_ok (delist_answer (sound x) (holds (same x) xs))

-- the entries after a change that is made
abbrev pub after : {L : Type 0} → (L → L → Bool) → List L → Change L → List L
after same xs (Enter x) = xs ++ x ∷ []
after same xs (Leave x) = without (place (same x) xs) xs

abbrev pub changed : {L : Type 0} → (L → Bool) → (L → L → Bool) → ℕ → List L → Change L → List L
changed sound same room xs c = cond (made sound same room xs c) (after same xs c) xs

-- the entries after changes to an empty roster, one by one
abbrev pub standing : {L : Type 0} → (L → Bool) → (L → L → Bool) → ℕ → List (Change L) → List L
standing sound same room cs = fold (changed sound same room) [] cs

-- those of the changes that are made, from the entries xs on
abbrev pub made_from : {L : Type 0} → (L → Bool) → (L → L → Bool) → ℕ → List L → List (Change L) → List (Change L)
made_from sound same room xs [] = []
made_from sound same room xs (c ∷ cs) =
    cond (made sound same room xs c) (c ∷ made_from sound same room (after same xs c) cs) (made_from sound same room xs cs)

-- whether a change takes the entry x out
abbrev pub takes_out : {L : Type 0} → (L → L → Bool) → L → Change L → Bool
takes_out same x (Enter y) = false
takes_out same x (Leave y) = same y x

-- what was entered and not taken out later, in the order of entering
abbrev pub remaining : {L : Type 0} → (L → L → Bool) → List (Change L) → List L
remaining same [] = []
remaining same (Enter x ∷ cs) = cond (any (takes_out same x) cs) (remaining same cs) (x ∷ remaining same cs)
remaining same (Leave x ∷ cs) = remaining same cs
