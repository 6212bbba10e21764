-- Results by cases: what a test that passed or failed says of its number, and which result an answer stands for. Assumes nothing.
use Rattle.std.proofs.Common.{◌≡◌, sym, ap, ◌∙◌, ℕ, Result, Ok, Err, arith}
use Rattle.std.specs.Result.{IfOk}
use Rattle.table.specs.declared.Table.{Table}
use Rattle.table.specs.declared.refused.Reason.{Reason}
use Rattle.table.specs.declared.refused.Refused.{Refused}
use Rattle.table.specs.Rules.{refusal}
use Rattle.table.specs.Reasons.{as_refusal}
use Rattle.table.proofs.Reasons.{number_some, not_fine, as_refusal_same}
use Rattle.format.specs.Tests.{number_or_0}
use Rattle.record.specs.declared.ReadAnswer.{ReadAnswer}
use Rattle.record.specs.declared.FieldAnswer.{FieldAnswer}
use Rattle.record.specs.declared.Part.{Part}
use Rattle.record.specs.Reading.{placed, read_answered}
use Rattle.record.specs.Field.{field_answered}

-- ---- a test at a place

module _ {A : Type 0} (at n : ℕ) where
  pub passed_number : (r : Result A Reason) (a : A) → Ok a ≡ placed at r → number_or_0 r ≡ n → n ≡ 0
  passed_number (Ok b) a p e = sym e
  passed_number (Err x) a p e = cc

  pub passed_answer : (r : Result A Reason) (a : A) (P : A → Type 0) → Ok a ≡ placed at r → IfOk r P → P a
  passed_answer (Ok b) a P p h = let e : b ≡ a = cc in rw e at h
  passed_answer (Err x) a P p h = cc

  pub failed_number : (r : Result A Reason) (d : Refused) → Err d ≡ placed at r → number_or_0 r ≡ n → (n ≡ 0 → ⊥) × (as_refusal d ≡ refusal n at)
  failed_number (Ok b) d p e = cc
  failed_number (Err x) d p e =
      let (k, some) = number_some x in
      let r : d ≡ record { reason = x; place = at } = cc in
      (λ z. absurd (omega arith), ap as_refusal r ∙ ap (λ k. refusal k at) e)

-- ---- two results that stand for one answer are the same

pub read_answered_same : (r r' : Result Table Refused) → read_answered r ≡ read_answered r' → r ≡ r'
read_answered_same (Ok t) (Ok u) e = ap Ok (ap (λ (a : ReadAnswer). a.table) e)
read_answered_same (Ok t) (Err x) e = absurd (not_fine x (sym (ap (λ (a : ReadAnswer). a.refusal) e)))
read_answered_same (Err x) (Ok u) e = absurd (not_fine x (ap (λ (a : ReadAnswer). a.refusal) e))
read_answered_same (Err x) (Err y) e = ap Err (as_refusal_same x y (ap (λ (a : ReadAnswer). a.refusal) e))

pub field_answered_same : (r r' : Result Part Refused) → field_answered r ≡ field_answered r' → r ≡ r'
field_answered_same (Ok p) (Ok q) e = ap (λ (a : FieldAnswer). Ok (record { offset = a.offset; length = a.length })) e
field_answered_same (Ok p) (Err x) e = absurd (not_fine x (sym (ap (λ (a : FieldAnswer). a.refusal) e)))
field_answered_same (Err x) (Ok q) e = absurd (not_fine x (ap (λ (a : FieldAnswer). a.refusal) e))
field_answered_same (Err x) (Err y) e = ap Err (as_refusal_same x y (ap (λ (a : FieldAnswer). a.refusal) e))
