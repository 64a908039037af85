-- What is answered to a listing and to a delisting: the first check that fails decides.
use Rattle.std.specs.Prelude.{ℕ, Bool, cond, Ok, Err, Result}

abbrev pub form_answer : Bool → Result (Unit {0}) ℕ
form_answer sound = cond sound (Ok tt) (Err 21)

-- to a listing: is it sound, is the same one entered, is a place free
abbrev pub list_answer : Bool → Bool → Bool → Result (Unit {0}) ℕ
list_answer sound entered free = cond sound (cond entered (Err 28) (cond free (Ok tt) (Err 27))) (Err 21)

-- to a delisting: is it sound, is the same one entered
abbrev pub delist_answer : Bool → Bool → Result (Unit {0}) ℕ
delist_answer sound entered = cond sound (cond entered (Ok tt) (Err 22)) (Err 21)
