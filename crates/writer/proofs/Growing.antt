-- Laws of writing: a run of stores after another, and how the fields of a table grow by one. Assumes nothing.
use mathlib.Core.Path.{◌≡◌, refl, ap}
use mathlib.Core.List.{List, [], ◌∷◌, ◌++◌}
use Prim.Native.Nat.{ℕ, zero, suc, ◌+◌, ◌*◌}
use native.Mathlib.Omega.{arith}
use native.Mathlib.Numerals.{add-one}
use lib.ListN.{length, set, length-append}
use lib.Seq.{sets}
use Rattle.table.specs.declared.Table.{Table}
use Rattle.table.specs.Table.{location_at, task_at}
use Rattle.format.specs.Format.{header_field, location_field, task_field, location_fields, task_fields, record_of, location_offset, task_offset}

-- stores of ys just after those of xs are stores of both
pub sets_after : (xs ys s : List ℕ) (i n : ℕ) → i + length xs ≡ n → sets (sets s i xs) n ys ≡ sets s i (xs ++ ys)
sets_after [] ys s i n e = ap (λ k. sets s k ys) (omega arith)
sets_after (x ∷ xs) ys s i n e = sets_after xs ys (set s i x) (suc i) n (omega arith)

pub length_locations : (t : Table) (n : ℕ) → length (location_fields t n) ≡ 12 * n
unfolding location_fields
length_locations t zero = refl
length_locations t (suc n) = omega (arith, length-append (location_fields t n) (location_field (location_at t n)), length_locations t n)

pub length_tasks : (t : Table) (n : ℕ) → length (task_fields t n) ≡ 10 * n
unfolding task_fields
length_tasks t zero = refl
length_tasks t (suc n) = omega (arith, length-append (task_fields t n) (task_field (task_at t n)), length_tasks t n)

-- after v locations, location v
pub locations_next : (t : Table) (s : List ℕ) (v : ℕ) → sets (sets s 7 (location_fields t v)) (location_offset v) (location_field (location_at t v)) ≡ sets s 7 (location_fields t (v + 1))
unfolding location_fields
locations_next t s v =
    rw (add-one v) (sets_after (location_fields t v) (location_field (location_at t v)) s 7 (location_offset v) (omega (arith, length_locations t v)))

-- after i tasks, task i
pub tasks_next : (t : Table) (s : List ℕ) (i : ℕ) → sets (sets s (task_offset t 0) (task_fields t i)) (task_offset t i) (task_field (task_at t i)) ≡ sets s (task_offset t 0) (task_fields t (i + 1))
unfolding task_fields
tasks_next t s i =
    rw (add-one i) (sets_after (task_fields t i) (task_field (task_at t i)) s (task_offset t 0) (task_offset t i) (omega (arith, length_tasks t i)))

-- the header, the locations after it, and the tasks after these
pub record_of_law : (t : Table) (s : List ℕ) → sets (sets (sets s 0 (header_field t)) 7 (location_fields t t.locations)) (task_offset t 0) (task_fields t t.tasks) ≡ sets s 0 (record_of t)
unfolding record_of
record_of_law t s =
    let n = t.locations in
    sets_after (location_fields t n) (task_fields t t.tasks) (sets s 0 (header_field t)) 7 (task_offset t 0) (omega (arith, length_locations t n))
