-- An accepted record is as long as its table says: at each field the table read so far takes up just the bytes before it. Assumes nothing.
use mathlib.Core.Path.{◌≡◌, refl}
use mathlib.Core.List.{List}
use mathlib.Core.Logic.{inl, inr}
use Prim.Native.Nat.{ℕ, zero, suc, ◌+◌, ◌≤◌}
use native.Mathlib.Omega.{arith}
use lib.ListN.{length}
use Rattle.laws.proofs.Test.{either, le_or_lt, same_or_not}
use Rattle.table.specs.declared.Table.{Table}
use Rattle.table.specs.Rules.{judged}
use Rattle.format.specs.Format.{record_length}
use Rattle.format.specs.Tests.{left, is_location, header_number, field_number}
use Rattle.record.specs.declared.ReadAnswer.{ReadAnswer}
use Rattle.record.specs.Reading.{fields_from, most_fields, fields_of, read_of}
use Rattle.record.proofs.Fields.{header_refused, header_fine, header_met, location_met, task_met, location_read, task_read, field_refused, end_without_location, end_read, read_refused, read_judged, read_accepted}

-- a field that is not refused has its tag and length
pub front_met : (s : List ℕ) (at n m : ℕ) → field_number s at n m ≡ 0 → 3 ≤ left s at
front_met s at n m e = elim (either (is_location s at m)) [
  | inl y ↦ omega (arith, location_met s at n m e y)
  | inr y ↦ omega (arith, (task_met s at n m e y).2)
]

from_length : (k : ℕ) (s : List ℕ) (at : ℕ) (t : Table) → at ≡ record_length t → at ≤ length s
    → (fields_from k s at t).refusal.number ≡ 0 → record_length (fields_from k s at t).table ≡ length s
unfolding fields_from
from_length zero s at t a l e = absurd (omega arith)
from_length (suc k) s at t a l e = elim (le_or_lt (length s) at) [
  | inl over ↦ elim (same_or_not t.locations 0) [
    | inl z ↦ absurd (omega (arith, rw (end_without_location (suc k) k s at t refl over z) at e))
    | inr h ↦ rw (end_read (suc k) k s at t refl over h) (omega arith)
  ]
  | inr more ↦ elim (same_or_not (field_number s at t.locations t.tasks) 0) [
    | inl z ↦ elim (either (is_location s at t.tasks)) [
      | inl y ↦
          let met = location_met s at _ _ z y in
          let next = location_read (suc k) k s at t refl more z y in
          rw next (from_length k s (at + 12) _ (omega arith) (omega arith) (rw next at e))
      | inr y ↦
          let met = task_met s at _ _ z y in
          let next = task_read (suc k) k s at t refl more z y in
          rw next (from_length k s (at + 10) _ (omega arith) (omega arith) (rw next at e))
    ]
    | inr h ↦ absurd (h (rw (field_refused (suc k) k s at t refl more h) at e))
  ]
]

module _ (s : List ℕ) where
  pub accepted_length : (fields_of s).refusal.number ≡ 0 → record_length (fields_of s).table ≡ length s
  accepted_length e = elim (same_or_not (header_number s) 0) [
    | inl z ↦
        let met = header_met s z in
        let next = header_fine s z in
        rw next (from_length most_fields s 7 _ (omega arith) (omega arith) (rw next at e))
    | inr h ↦ absurd (h (rw (header_refused s h) at e))
  ]

  -- the judge keeps the table
  pub read_length : (read_of s).refusal.number ≡ 0 → record_length (read_of s).table ≡ length s
  read_length e = elim (same_or_not (fields_of s).refusal.number 0) [
    | inl f ↦ elim (same_or_not (judged (fields_of s).table).number 0) [
      | inl j ↦ rw (read_accepted s f j) (accepted_length f)
      | inr h ↦ absurd (h (rw (read_judged s f h) at e))
    ]
    | inr h ↦ absurd (h (rw (read_refused s h) at e))
  ]

  -- the same of an answer, as C holds it
  pub answer_length : (a : ReadAnswer) → a ≡ read_of s → a.refusal.number ≡ 0 → ((read_of s).refusal.number ≡ 0) × (record_length a.table ≡ length s)
  answer_length a f e = let r = rw f at e in (r, rw f (read_length r))
