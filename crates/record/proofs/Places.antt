-- Where each field of a record is, how long the record is, and that the record depends on what counts only: 7 bytes of header, then
-- a row of locations of 12 bytes, then a row of tasks of 10. Assumes nothing.
use mathlib.Core.Path.{◌≡◌, refl, sym, ap, ap₂, ◌∙◌}
use mathlib.Core.List.{List, [], ◌∷◌, ◌++◌, append_assoc, append-nil}
use mathlib.Core.Logic.{inl, inr}
use Prim.Native.Nat.{ℕ, zero, suc, ◌+◌, ◌-◌, ◌*◌, ◌≤◌, ◌<◌}
use native.Mathlib.Omega.{arith}
use lib.ListN.{length, take, drop, length-append}
use lib.Seq.{drop-drop}
use lib.Dec.{eqb, leb, le→leb}
use lib.Arith.{lt→nleb}
use Rattle.laws.proofs.Test.{le_or_lt, eqb_of, neqb_of, pick_yes, pick_no}
use Rattle.table.specs.declared.Table.{Table}
use Rattle.table.specs.Table.{location_at, task_at, Same}
use Rattle.format.specs.Format.{header_bytes, location_bytes, task_bytes, high_byte, low_byte, header_field, location_field, task_field, location_fields, task_fields, record_of, location_offset, task_offset, record_length, payload_offset, payload_length, field_count}
use Rattle.record.proofs.Pieces.{row, row_same, length_row, piece_at}

-- ---- rows

abbrev pub location_row : Table → ℕ → List ℕ
location_row t n = row (λ v. location_field (location_at t v)) n

abbrev pub task_row : Table → ℕ → List ℕ
task_row t n = row (λ i. task_field (task_at t i)) n

locations_row : (t : Table) (n : ℕ) → location_fields t n ≡ location_row t n
unfolding location_fields row
locations_row t zero = refl
locations_row t (suc n) = ap (λ (r : List ℕ). r ++ location_field (location_at t n)) (locations_row t n)

tasks_row : (t : Table) (n : ℕ) → task_fields t n ≡ task_row t n
unfolding task_fields row
tasks_row t zero = refl
tasks_row t (suc n) = ap (λ (r : List ℕ). r ++ task_field (task_at t n)) (tasks_row t n)

pub record_rows : (t : Table) → record_of t ≡ header_field t ++ (location_row t t.locations ++ task_row t t.tasks)
unfolding record_of
record_rows t = ap₂ (λ (a b : List ℕ). header_field t ++ (a ++ b)) (locations_row t t.locations) (tasks_row t t.tasks)

pub record_same : (t u : Table) → Same t u → record_of t ≡ record_of u
record_same t u s =
    record_rows t
    ∙ (ap₂ (λ (h b : List ℕ). h ++ b) header
    (ap₂ (λ (a b : List ℕ). a ++ b)
    (row_same _ _ t.locations (λ v l. ap location_field (s.location v l)) ∙ ap (location_row u) s.locations)
    (row_same _ _ t.tasks (λ i l. ap task_field (s.task i l)) ∙ ap (task_row u) s.tasks))
    ∙ sym (record_rows u))
  where
    header : header_field t ≡ header_field u
    header = λ i. 1 ∷ 0 ∷ 4 ∷ s.version i ∷ s.queues i ∷ high_byte (s.period i) ∷ low_byte (s.period i) ∷ []

-- ---- places

module _ (t : Table) where
  length_locations : (n : ℕ) → length (location_row t n) ≡ 12 * n
  length_locations = length_row (λ v. location_field (location_at t v)) 12 (λ v. refl)

  length_tasks : (n : ℕ) → length (task_row t n) ≡ 10 * n
  length_tasks = length_row (λ i. task_field (task_at t i)) 10 (λ i. refl)

  pub length_record : length (record_of t) ≡ record_length t
  length_record =
      let n = t.locations in
      let m = t.tasks in
      ap length (record_rows t) ∙ omega (arith, length-append (location_row t n) (task_row t m), length_locations n, length_tasks m)

  -- from location v's field on: the field, and what there is from the next place on
  pub location_at_law : (v : ℕ) → v < t.locations → drop (location_offset v) (record_of t) ≡ location_field (location_at t v) ++ drop (location_offset (suc v)) (record_of t)
  location_at_law v l = rw (record_rows t) (piece_at (λ v. location_field (location_at t v)) 12 (λ v. refl) (header_field t) (task_row t t.tasks) 7 t.locations v refl l)

  pub task_at_law : (i : ℕ) → i < t.tasks → drop (task_offset t i) (record_of t) ≡ task_field (task_at t i) ++ drop (task_offset t (suc i)) (record_of t)
  task_at_law i l = rw whole (piece_at (λ i. task_field (task_at t i)) 10 (λ i. refl) before [] (location_offset t.locations) t.tasks i long l)
    where
      before : List ℕ
      before = header_field t ++ location_row t t.locations

      long : length before ≡ location_offset t.locations
      long = omega (arith, length_locations t.locations)

      whole : record_of t ≡ before ++ (task_row t t.tasks ++ [])
      whole = record_rows t ∙ (sym (append_assoc (header_field t) (location_row t t.locations) (task_row t t.tasks)) ∙ ap (λ (r : List ℕ). before ++ r) (sym (append-nil (task_row t t.tasks))))

-- ---- payloads, by the number of the field

module _ (t : Table) (k : ℕ) where
  pub header_place : k ≡ 0 → (payload_offset t k ≡ 3) × (payload_length t k ≡ 4)
  header_place e = let y = eqb_of k 0 e in (pick_yes (eqb k 0) _ _ y, pick_yes (eqb k 0) _ _ y)

  pub location_place_law : 0 < k → k ≤ t.locations → (payload_offset t k ≡ location_offset (k - 1) + 3) × (payload_length t k ≡ 9)
  location_place_law z l =
      let n = neqb_of k 0 (omega arith) in
      let y = le→leb k t.locations l in
      (pick_no (eqb k 0) _ _ n ∙ pick_yes (leb k t.locations) _ _ y, pick_no (eqb k 0) _ _ n ∙ pick_yes (leb k t.locations) _ _ y)

  pub task_place_law : t.locations < k → (payload_offset t k ≡ task_offset t (k - (t.locations + 1)) + 3) × (payload_length t k ≡ 7)
  task_place_law l =
      let n = neqb_of k 0 (omega arith) in
      let y = lt→nleb k t.locations l in
      (pick_no (eqb k 0) _ _ n ∙ pick_no (leb k t.locations) _ _ y, pick_no (eqb k 0) _ _ n ∙ pick_no (leb k t.locations) _ _ y)

  pub payload_within : k < field_count t → payload_offset t k + payload_length t k ≤ record_length t
  payload_within h = elim (le_or_lt k 0) [
    | inl z ↦ omega (arith, header_place (omega arith))
    | inr z ↦ elim (le_or_lt k t.locations) [
      | inl l ↦ omega (arith, location_place_law z l)
      | inr l ↦ omega (arith, task_place_law l)
    ]
  ]

-- the bytes of the record there
abbrev pub payload_at : Table → ℕ → List ℕ
payload_at t k = take (payload_length t k) (drop (payload_offset t k) (record_of t))

-- what is behind the tag and the length of the field at `at`
behind : (s : List ℕ) (at a b c o w m : ℕ) (p more : List ℕ) → o ≡ at + 3 → w ≡ m → drop at s ≡ (a ∷ b ∷ c ∷ p) ++ more → take w (drop o s) ≡ take m (p ++ more)
behind s at a b c o w m p more e f h = ap₂ (λ x y. take x (drop y s)) f e ∙ ap (take m) (sym (drop-drop 3 at s) ∙ ap (drop 3) h)

pub header_payload : (t : Table) (k : ℕ) → k ≡ 0 → payload_at t k ≡ header_bytes t
header_payload t k e = let q = header_place t k e in ap₂ (λ x y. take x (drop y (record_of t))) q.1 q.0 ∙ ap (λ (s : List ℕ). take 4 (drop 3 s)) (record_rows t)

pub location_payload : (t : Table) (k : ℕ) → 0 < k → k ≤ t.locations → payload_at t k ≡ location_bytes (location_at t (k - 1))
location_payload t k z l =
    let q = location_place_law t k z l in
    behind (record_of t) (location_offset (k - 1)) 2 0 9 _ _ 9 (location_bytes (location_at t (k - 1))) _ q.0 q.1 (location_at_law t (k - 1) (omega arith))

pub task_payload : (t : Table) (k : ℕ) → t.locations < k → k < field_count t → payload_at t k ≡ task_bytes (task_at t (k - (t.locations + 1)))
task_payload t k l h =
    let i = k - (t.locations + 1) in
    let q = task_place_law t k l in
    behind (record_of t) (task_offset t i) 3 0 7 _ _ 7 (task_bytes (task_at t i)) _ q.0 q.1 (task_at_law t i (omega arith))
