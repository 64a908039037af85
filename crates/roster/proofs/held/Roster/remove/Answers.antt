use Rattle.std.proofs.Common.{◌≡◌, ℕ, ◌+◌, ◌-◌, ◌<◌, ◌≤◌, List, length, take, drop, arith, length-drop, add-one, rules}
use Rattle.std.specs.List.{copy_within, remove}
use Rattle.std.proofs.lemmas.List.{take-take, drop-take}
use Rattle.std.proofs.lemmas.List.Edits.{take-paste}
use Rattle.roster.proofs.held.Roster.remove.Goals as goal

moved_up : {X : Type 0} (xs : List X) (at len : ℕ) → at < len → len ≤ length xs → take (len - 1) (copy_within xs (at + 1) len at) ≡ remove (take len xs) at
moved_up xs at len l h =
    let n : ℕ = len - (at + 1) in
    let low : len - 1 ≡ at + n = omega arith in
    let high : len ≡ at + 1 + n = omega arith in
    let fits : n ≤ length (drop (at + 1) xs) = grind (arith, length-drop (at + 1) xs) in
    let cut = take-paste xs at (drop (at + 1) xs) n (omega arith) fits in
    let head = take-take at len xs (omega arith) in
    let tail = drop-take (at + 1) n xs in
    let one = add-one at in
    cc

pub returns-clause-entries : goal.returns-clause-entries
returns-clause-entries g c =
    let entries = moved_up c.args.self.now.places.now c.args.at c.args.self.now.len c.requires c.args.self.now.within in
    search rules
