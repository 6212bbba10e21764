-- The tests at one field, in their order. The answer is 0 or the number of refusal.
use Rattle.std.specs.Prelude.{Bool, true, false, ◌&&◌, List, ℕ, ◌+◌, ◌-◌, length, get_or, drop, eqb, leb, ltb, Result, Ok, Err}
use Rattle.laws.specs.Test.{pick}
use Rattle.table.specs.declared.refused.Reason.{Reason}
use Rattle.table.specs.Reasons.{number}
use Rattle.format.specs.declared.refusals.Kind.{Kind}
use Rattle.format.specs.declared.refusals.Kind.TheVariants.{Location, Task}
use Rattle.format.specs.Format.{number16}

-- The field at `at` has this tag and length.
abbrev pub is_field : List ℕ → ℕ → ℕ → ℕ → Bool
is_field s at tag len = eqb (get_or s at 0) tag && eqb (number16 (drop (at + 1) s)) len

-- The bytes from `at` on.
abbrev pub left : List ℕ → ℕ → ℕ
left s at = length s - at

-- Fewer than three bytes left; tag, length and order; payload short.
unfoldable pub header_number : List ℕ → ℕ
header_number s = pick (ltb (length s) 3) 1 (pick (is_field s 0 1 4) (pick (ltb (length s) 7) 1 0) 2)

-- A location may come before any task; a task after a location.
abbrev pub is_location : List ℕ → ℕ → ℕ → Bool
is_location s at tasks = is_field s at 2 9 && eqb tasks 0

abbrev pub is_task : List ℕ → ℕ → ℕ → Bool
is_task s at locations = is_field s at 3 7 && ltb 0 locations

-- The same with count, after so many locations and tasks.
unfoldable pub field_number : List ℕ → ℕ → ℕ → ℕ → ℕ
field_number s at locations tasks =
    pick (ltb (left s at) 3) 1
    (pick (is_location s at tasks) (pick (leb 128 locations) 3 (pick (ltb (left s at) 12) 1 0))
    (pick (is_task s at locations) (pick (leb 32 tasks) 3 (pick (ltb (left s at) 10) 1 0))
    2))

-- ---- as the code answers

-- The number of refusal, or 0.
abbrev pub number_or_0 : {A : Type 0} → Result A Reason → ℕ
number_or_0 (Ok a) = 0
number_or_0 (Err r) = number r

-- Which of the two a field is.
abbrev pub names_location : Kind → Bool
names_location Location = true
names_location Task = false
