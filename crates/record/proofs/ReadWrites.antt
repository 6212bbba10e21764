-- What was read writes back the bytes it was read from: after each field the table so far is written as the bytes so far, since one
-- entry more adds one field more. Assumes nothing.
use mathlib.Core.Path.{◌≡◌, refl, sym, ap, ap₂, subst, ◌∙◌}
use mathlib.Core.List.{List, [], ◌∷◌, ◌++◌, append_assoc, append-nil}
use mathlib.Core.Bool.{not}
use mathlib.Core.Logic.{inl, inr}
use Prim.Native.Nat.{ℕ, zero, suc, ◌+◌, ◌≤◌, ◌<◌}
use native.Mathlib.Omega.{arith}
use lib.ListN.{length, get_or, take, drop, length-set, length-drop, length-replicate}
use lib.Seq.{take_all, take-add, get_or-drop, drop-drop}
use lib.Dec.{T, eqb, eqb→eq, ltb}
use Rattle.laws.proofs.Test.{either, le_or_lt, and_left, and_right}
use Rattle.table.specs.declared.Location.{Location}
use Rattle.table.specs.declared.Task.{Task}
use Rattle.table.specs.declared.Table.{Table}
use Rattle.table.specs.Table.{no_location, no_task}
use Rattle.table.specs.Rules.{fine}
use Rattle.table.specs.Ranged.{RangedLocation, RangedTask}
use Rattle.table.proofs.Widths.{InWidth}
use Rattle.format.specs.Format.{number16, header_of, location_of, task_of, header_field, location_field, task_field, record_of}
use Rattle.format.specs.Tests.{is_field, left, header_number, is_location, field_number}
use Rattle.record.specs.declared.ReadAnswer.{ReadAnswer}
use Rattle.record.specs.Reading.{with_location, with_task, fields_from, most_fields, fields_of}
use Rattle.record.proofs.Payloads.{Bytes, bytes_drop, number_in_width, location_in_width, task_in_width, bytes_from_law, header_bytes_back, location_bytes_back, task_bytes_back}
use Rattle.record.proofs.Pieces.{row, each_stored, row_stored}
use Rattle.record.proofs.Places.{location_row, task_row, record_rows}
use Rattle.record.proofs.Fields.{header_refused, header_fine, header_met, location_met, task_met, location_read, task_read, field_refused, end_without_location, end_read}

-- ---- the bytes of a field, known by its tests

field_bytes : (s : List ℕ) (at tag len w : ℕ) → T (is_field s at tag len) → len < 256 → 3 ≤ left s at → take (3 + w) (drop at s) ≡ tag ∷ 0 ∷ len ∷ take w (drop (at + 3) s)
field_bytes s at tag len w y l h =
    let d = drop at s in
    let a : get_or d 0 0 ≡ tag = get_or-drop at s 0 0 ∙ (ap (λ n. get_or s n 0) (omega arith) ∙ eqb→eq (get_or s at 0) tag (and_left (eqb (get_or s at 0) tag) _ y)) in
    let n : number16 (drop 1 d) ≡ len = ap number16 (drop-drop 1 at s) ∙ eqb→eq (number16 (drop (at + 1) s)) len (and_right (eqb (get_or s at 0) tag) _ y) in
    let b : get_or d 1 0 ≡ 0 = omega (arith, get_or-drop 1 d 0 0, get_or-drop 1 d 1 0) in
    let c : get_or d 2 0 ≡ len = omega (arith, get_or-drop 1 d 0 0, get_or-drop 1 d 1 0) in
    let front : take 3 d ≡ tag ∷ 0 ∷ len ∷ [] = sym (bytes_from_law d 0 3 (omega (arith, length-drop at s))) ∙ (λ i. a i ∷ b i ∷ c i ∷ []) in
    take-add 3 w d ∙ ap₂ (λ (x z : List ℕ). x ++ take w z) front (drop-drop 3 at s)

-- ---- one entry more

record_location : (r : Table) (l : Location) → r.locations < length r.location → r.tasks ≡ 0 → record_of (with_location r l) ≡ record_of r ++ location_field l
unfolding row
record_location r l h z =
    let H = header_field r in
    let X = location_row r r.locations in
    let none : task_row r r.tasks ≡ [] = ap (task_row r) z in
    record_rows (with_location r l)
    ∙ (ap₂ (λ (x y : List ℕ). H ++ (x ++ y)) (row_stored r.location r.locations l no_location h location_field) none
    ∙ (ap (λ (x : List ℕ). H ++ x) (append-nil (X ++ location_field l))
    ∙ (sym (append_assoc H X (location_field l))
    ∙ sym (ap (λ (x : List ℕ). x ++ location_field l) (record_rows r ∙ (ap (λ (y : List ℕ). H ++ (X ++ y)) none ∙ ap (λ (x : List ℕ). H ++ x) (append-nil X)))))))

record_task : (r : Table) (k : Task) → r.tasks < length r.task → record_of (with_task r k) ≡ record_of r ++ task_field k
record_task r k h =
    let H = header_field r in
    let X = location_row r r.locations in
    let K = task_row r r.tasks in
    record_rows (with_task r k)
    ∙ (ap (λ (y : List ℕ). H ++ (X ++ y)) (row_stored r.task r.tasks k no_task h task_field)
    ∙ (ap (λ (x : List ℕ). H ++ x) (sym (append_assoc X K (task_field k)))
    ∙ (sym (append_assoc H (X ++ K) (task_field k)) ∙ sym (ap (λ (x : List ℕ). x ++ task_field k) (record_rows r)))))

-- ---- the table so far

-- u is written as s; its numbers are in their widths, its lists as long as a table's are
pub record Writes (u : Table) (s : List ℕ) : Type 0 where
  pub back : record_of u ≡ s
  pub in_width : InWidth u
  pub locations_long : length u.location ≡ 128
  pub tasks_long : length u.task ≡ 32

module _ (s : List ℕ) (b : Bytes s) where
  header_writes : header_number s ≡ 0 → Writes (header_of (drop 3 s)) (take 7 s)
  unfolding row
  header_writes e =
      let (y, h) = header_met s e in
      let d = drop 3 s in
      let c = bytes_drop 3 s b in
      record {
        back =
            record_rows (header_of d)
            ∙ (ap (λ (x : List ℕ). 1 ∷ 0 ∷ 4 ∷ x) (header_bytes_back d c (omega (arith, length-drop 3 s))) ∙ sym (field_bytes s 0 1 4 4 y (omega arith) (omega arith)));
        in_width = record {
          version = c 0;
          queues = c 1;
          period = number_in_width (drop 2 d) (bytes_drop 2 d c);
          location = λ v l. absurd (omega arith);
          task = λ i l. absurd (omega arith);
        };
        locations_long = length-replicate 128 no_location;
        tasks_long = length-replicate 32 no_task;
      }

  module _ (at : ℕ) (r : Table) (fine-here : field_number s at r.locations r.tasks ≡ 0) (w : Writes r (take at s)) where
    location_writes : T (is_location s at r.tasks) → Writes (with_location r (location_of (drop (at + 3) s))) (take (at + 12) s)
    location_writes y =
        let (room, whole) = location_met s at r.locations r.tasks fine-here y in
        let d = drop (at + 3) s in
        let c = bytes_drop (at + 3) s b in
        let fits : r.locations < length r.location = omega (arith, w.locations_long) in
        let field = field_bytes s at 2 9 9 (and_left (is_field s at 2 9) (eqb r.tasks 0) y) (omega arith) (omega arith) in
        let none = eqb→eq r.tasks 0 (and_right (is_field s at 2 9) (eqb r.tasks 0) y) in
        let same = ap (λ (x : List ℕ). 2 ∷ 0 ∷ 9 ∷ x) (location_bytes_back d c (omega (arith, length-drop (at + 3) s))) ∙ sym field in
        record {
          back = record_location r (location_of d) fits none ∙ (ap₂ ◌++◌ w.back same ∙ sym (take-add at 12 s));
          in_width = record {
            version = w.in_width.version;
            queues = w.in_width.queues;
            period = w.in_width.period;
            location = each_stored r.location r.locations (location_of d) no_location fits (λ v. RangedLocation) w.in_width.location (location_in_width d c);
            task = w.in_width.task;
          };
          locations_long = length-set r.location r.locations (location_of d) ∙ w.locations_long;
          tasks_long = w.tasks_long;
        }

    task_writes : T (not (is_location s at r.tasks)) → Writes (with_task r (task_of (drop (at + 3) s))) (take (at + 10) s)
    task_writes n =
        let (y, room, whole) = task_met s at r.locations r.tasks fine-here n in
        let d = drop (at + 3) s in
        let c = bytes_drop (at + 3) s b in
        let fits : r.tasks < length r.task = omega (arith, w.tasks_long) in
        let field = field_bytes s at 3 7 7 (and_left (is_field s at 3 7) (ltb 0 r.locations) y) (omega arith) (omega arith) in
        let same = ap (λ (x : List ℕ). 3 ∷ 0 ∷ 7 ∷ x) (task_bytes_back d c (omega (arith, length-drop (at + 3) s))) ∙ sym field in
        record {
          back = record_task r (task_of d) fits ∙ (ap₂ ◌++◌ w.back same ∙ sym (take-add at 10 s));
          in_width = record {
            version = w.in_width.version;
            queues = w.in_width.queues;
            period = w.in_width.period;
            location = w.in_width.location;
            task = each_stored r.task r.tasks (task_of d) no_task fits (λ i. RangedTask) w.in_width.task (task_in_width d c);
          };
          locations_long = w.locations_long;
          tasks_long = length-set r.task r.tasks (task_of d) ∙ w.tasks_long;
        }

-- ---- all fields

-- an answer that is no refusal writes s back
abbrev WritesBack : List ℕ → ReadAnswer → Type 0
WritesBack s a = a.refusal.number ≡ 0 → (a.refusal ≡ fine) × Writes a.table s

writes_on : (s : List ℕ) → Bytes s → (k at : ℕ) (r : Table) → Writes r (take at s) → WritesBack s (fields_from k s at r)
unfolding fields_from
writes_on s b zero at r w = λ e. absurd (omega arith)
writes_on s b (suc k) at r w = elim (le_or_lt (length s) at) [
  | inl h ↦ elim (le_or_lt r.locations 0) [
    | inl z ↦ subst (WritesBack s) (sym (end_without_location (suc k) k s at r refl h (omega arith))) (λ e. absurd (omega arith))
    | inr z ↦ subst (WritesBack s) (sym (end_read (suc k) k s at r refl h (omega arith))) (λ e. (refl, subst (Writes r) (take_all at s h) w))
  ]
  | inr h ↦ elim (le_or_lt (field_number s at r.locations r.tasks) 0) [
    | inl z ↦ elim (either (is_location s at r.tasks)) [
      | inl y ↦
          subst (WritesBack s) (sym (location_read (suc k) k s at r refl h (omega arith) y))
          (writes_on s b k (at + 12) (with_location r (location_of (drop (at + 3) s))) (location_writes s b at r (omega arith) w y))
      | inr y ↦
          subst (WritesBack s) (sym (task_read (suc k) k s at r refl h (omega arith) y))
          (writes_on s b k (at + 10) (with_task r (task_of (drop (at + 3) s))) (task_writes s b at r (omega arith) w y))
    ]
    | inr z ↦ subst (WritesBack s) (sym (field_refused (suc k) k s at r refl h (omega arith))) (λ e. absurd (omega arith))
  ]
]

fields_write : (s : List ℕ) → Bytes s → WritesBack s (fields_of s)
fields_write s b = elim (le_or_lt (header_number s) 0) [
  | inl z ↦ subst (WritesBack s) (sym (header_fine s (omega arith))) (writes_on s b most_fields 7 (header_of (drop 3 s)) (header_writes s b (omega arith)))
  | inr z ↦ subst (WritesBack s) (sym (header_refused s (omega arith))) (λ e. absurd (omega arith))
]

-- number 0 is no refusal
pub fields_number : (s : List ℕ) → Bytes s → (fields_of s).refusal.number ≡ 0 → (fields_of s).refusal ≡ fine
fields_number s b e = (fields_write s b e).0

pub fields_written : (s : List ℕ) → Bytes s → (fields_of s).refusal ≡ fine → Writes (fields_of s).table s
fields_written s b e = (fields_write s b (ap (λ r. r.number) e)).1
