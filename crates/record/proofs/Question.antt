-- Laws of the field question, one for each case; each case as the code answers it; and that a part lies within its record.
-- Assumes nothing.
use mathlib.Core.Path.{◌≡◌, sym, ap, ◌∙◌}
use mathlib.Core.List.{List}
use mathlib.Core.Logic.{inl, inr}
use Prim.Native.Nat.{ℕ, ◌+◌, ◌≤◌, ◌<◌}
use native.Mathlib.Omega.{arith}
use lib.Dec.{leb, le→leb}
use lib.Arith.{lt→nleb}
use lib.ListN.{length}
use Rattle.std.specs.Prelude.{Ok, Err}
use Rattle.laws.proofs.Cases.{zero_case, suc_case, true_case, false_case}
use Rattle.laws.proofs.Test.{le_or_lt, same_or_not}
use Rattle.table.specs.declared.Table.{Table}
use Rattle.table.specs.declared.refused.Reason.TheVariants.{Amount}
use Rattle.table.specs.declared.refused.Refused.{Refused}
use Rattle.table.specs.Rules.{refusal, fine}
use Rattle.table.specs.Reasons.{as_refusal}
use Rattle.table.proofs.Reasons.{number_some}
use Rattle.format.specs.Format.{payload_offset, payload_length, field_count, record_length}
use Rattle.record.specs.declared.Part.{Part}
use Rattle.record.specs.declared.ReadAnswer.{ReadAnswer}
use Rattle.record.specs.Reading.{refused, accepted, read_of}
use Rattle.record.specs.Field.{field_refusal, part_offset, part_length, field_of, field_answered}
use Rattle.record.proofs.Length.{read_length}
use Rattle.record.proofs.Places.{payload_within}

module _ (s : List ℕ) (k : ℕ) where
  pub asked_unread : ((read_of s).refusal.number ≡ 0 → ⊥) → field_refusal s k ≡ (read_of s).refusal
  unfolding field_refusal
  asked_unread h = suc_case (read_of s).refusal.number _ (λ n. (read_of s).refusal) h

  module _ (e : (read_of s).refusal.number ≡ 0) where
    pub asked_past : field_count (read_of s).table ≤ k → field_refusal s k ≡ refusal 11 0
    unfolding field_refusal
    asked_past l =
        zero_case (read_of s).refusal.number _ (λ n. (read_of s).refusal) e
        ∙ true_case (leb (field_count (read_of s).table) k) _ _ (le→leb _ _ l)

    pub asked_given : k < field_count (read_of s).table → field_refusal s k ≡ fine
    unfolding field_refusal
    asked_given l =
        zero_case (read_of s).refusal.number _ (λ n. (read_of s).refusal) e
        ∙ false_case (leb (field_count (read_of s).table) k) _ _ (lt→nleb _ _ l)

  pub part_refused : ((field_refusal s k).number ≡ 0 → ⊥) → (part_offset s k ≡ 0) × (part_length s k ≡ 0)
  unfolding part_offset part_length
  part_refused h = (suc_case (field_refusal s k).number _ (λ n. 0) h, suc_case (field_refusal s k).number _ (λ n. 0) h)

  pub part_given : (field_refusal s k).number ≡ 0
      → (part_offset s k ≡ payload_offset (read_of s).table k) × (part_length s k ≡ payload_length (read_of s).table k)
  unfolding part_offset part_length
  part_given e = (zero_case (field_refusal s k).number _ (λ n. 0) e, zero_case (field_refusal s k).number _ (λ n. 0) e)

  pub part_unread : ((read_of s).refusal.number ≡ 0 → ⊥) → (part_offset s k ≡ 0) × (part_length s k ≡ 0)
  part_unread h = part_refused (λ e. h (rw (asked_unread h) at e))

  pub part_past : (read_of s).refusal.number ≡ 0 → field_count (read_of s).table ≤ k → (part_offset s k ≡ 0) × (part_length s k ≡ 0)
  part_past e l = part_refused (λ z. omega (arith, rw (asked_past e l) at z))

  pub part_payload : (read_of s).refusal.number ≡ 0 → k < field_count (read_of s).table
      → (part_offset s k ≡ payload_offset (read_of s).table k) × (part_length s k ≡ payload_length (read_of s).table k)
  part_payload e l = part_given (rw (asked_given e l))

-- ---- the cases, as the code answers them

module _ (s : List ℕ) (k : ℕ) where
  pub answer_unread : (r : Refused) → refused (as_refusal r) ≡ read_of s → field_answered (Err r) ≡ field_of s k
  answer_unread r e =
      let (n, some) = number_some r.reason in
      let same = ap (λ (a : ReadAnswer). a.refusal) e in
      let h : (read_of s).refusal.number ≡ 0 → ⊥ = λ z. absurd (omega (arith, ap (λ (a : ReadAnswer). a.refusal.number) e)) in
      let q = same ∙ sym (asked_unread s k h) in
      let p = part_unread s k h in
      λ i. record { refusal = q i; offset = sym p.0 i; length = sym p.1 i }

  module _ (t : Table) (e : accepted t ≡ read_of s) where
    given : (read_of s).refusal.number ≡ 0
    given = sym (ap (λ (a : ReadAnswer). a.refusal.number) e)

    pub table_long : record_length t ≡ length s
    table_long = ap (λ (a : ReadAnswer). record_length a.table) e ∙ read_length s given

    count : field_count t ≡ field_count (read_of s).table
    count = ap (λ (a : ReadAnswer). field_count a.table) e

    pub answer_past : field_count t ≤ k → field_answered (Err (record { reason = Amount; place = 0 })) ≡ field_of s k
    answer_past l =
        let past : field_count (read_of s).table ≤ k = omega (arith, count) in
        let q = sym (asked_past s k given past) in
        let p = part_past s k given past in
        λ i. record { refusal = q i; offset = sym p.0 i; length = sym p.1 i }

    pub answer_payload : (p : Part) → p.offset ≡ payload_offset t k → p.length ≡ payload_length t k → k < field_count t → field_answered (Ok p) ≡ field_of s k
    answer_payload p o n l =
        let has : k < field_count (read_of s).table = omega (arith, count) in
        let q = sym (asked_given s k given has) in
        let w = part_payload s k given has in
        let offset = o ∙ (ap (λ (a : ReadAnswer). payload_offset a.table k) e ∙ sym w.0) in
        let length = n ∙ (ap (λ (a : ReadAnswer). payload_length a.table k) e ∙ sym w.1) in
        λ i. record { refusal = q i; offset = offset i; length = length i }

  -- an accepted record is as long as its table says, and a refused question gets the empty part
  pub part_within : part_offset s k + part_length s k ≤ length s
  part_within = elim (same_or_not (read_of s).refusal.number 0) [
    | inl z ↦ elim (le_or_lt (field_count (read_of s).table) k) [
      | inl l ↦ omega (arith, part_past s k z l)
      | inr l ↦ omega (arith, part_payload s k z l, payload_within (read_of s).table k l, read_length s z)
    ]
    | inr h ↦ omega (arith, part_unread s k h)
  ]
