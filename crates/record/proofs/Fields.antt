-- Reading by cases, one law for each case of the definitions: the header, one field more, the end, and the judge. A proof of code
-- that reads cites these and never opens the definitions. Assumes nothing.
use mathlib.Core.Path.{◌≡◌, sym, ap, ◌∙◌}
use mathlib.Core.Bool.{Bool, true, false, not}
use mathlib.Core.List.{List}
use Prim.Native.Nat.{ℕ, zero, suc, ◌+◌, ◌≤◌, ◌<◌}
use native.Mathlib.Omega.{arith}
use lib.ListN.{length, drop}
use lib.Dec.{T, leb, nleb→lt, ltb, lt→ltb, nltb→le}
use lib.Arith.{lt→nleb, le→nltb}
use Rattle.laws.specs.Test.{pick}
use Rattle.laws.proofs.Test.{pick_yes, pick_no}
use Rattle.laws.proofs.Cases.{zero_case, suc_case, true_case, false_case}
use Rattle.table.specs.declared.Table.{Table}
use Rattle.table.specs.Rules.{refusal, judged}
use Rattle.format.specs.Format.{header_of, location_of, task_of}
use Rattle.format.specs.Tests.{is_field, left, header_number, is_location, is_task, field_number}
use Rattle.record.specs.declared.ReadAnswer.{ReadAnswer}
use Rattle.record.specs.Reading.{refused, accepted, with_location, with_task, fields_from, most_fields, fields_of, read_of}

-- a number of refusal that is 0: the test in front of it
passed : (b : Bool) (n x : ℕ) → pick b (suc n) x ≡ 0 → T (not b) × (x ≡ 0)
passed true n x e = absurd (omega arith)
passed false n x e = (tt, e)

met : (b : Bool) (x n : ℕ) → pick b x (suc n) ≡ 0 → T b × (x ≡ 0)
met true x n e = (tt, e)
met false x n e = absurd (omega arith)

-- ---- the header

module _ (s : List ℕ) where
  pub header_refused : ¬ (header_number s ≡ 0) → fields_of s ≡ refused (refusal (header_number s) 0)
  unfolding fields_of
  header_refused h = suc_case (header_number s) _ (λ n. refused (refusal n 0)) h

  pub header_fine : header_number s ≡ 0 → fields_of s ≡ fields_from most_fields s 7 (header_of (drop 3 s))
  unfolding fields_of
  header_fine e = zero_case (header_number s) _ (λ n. refused (refusal n 0)) e

  -- a header that is fine is whole
  pub header_met : header_number s ≡ 0 → T (is_field s 0 1 4) × (7 ≤ length s)
  unfolding header_number
  header_met e =
      let a = passed (ltb (length s) 3) 0 _ e in
      let b = met (is_field s 0 1 4) _ 1 a.1 in
      (b.0, nltb→le (length s) 7 (passed (ltb (length s) 7) 0 0 b.1).0)

  pub header_number_law : T (is_field s 0 1 4) → 7 ≤ length s → header_number s ≡ 0
  unfolding header_number
  header_number_law y h =
      pick_no (ltb (length s) 3) _ _ (le→nltb (length s) 3 (omega arith))
      ∙ (pick_yes (is_field s 0 1 4) _ _ y ∙ pick_no (ltb (length s) 7) _ _ (le→nltb (length s) 7 h))

-- ---- the tests at one field, after n locations and m tasks

module _ (s : List ℕ) (at n m : ℕ) where
  -- a location that is not refused is whole, and there is room for it
  pub location_met : field_number s at n m ≡ 0 → T (is_location s at m) → (n < 128) × (12 ≤ left s at)
  unfolding field_number
  location_met e y =
      let a = passed (ltb (left s at) 3) 0 _ e in
      let b = passed (leb 128 n) 2 _ (sym (pick_yes (is_location s at m) _ _ y) ∙ a.1) in
      (nleb→lt 128 n b.0, nltb→le (left s at) 12 (passed (ltb (left s at) 12) 0 0 b.1).0)

  -- what is not refused and no location is a task, whole, and there is room for it
  pub task_met : field_number s at n m ≡ 0 → T (not (is_location s at m)) → T (is_task s at n) × (m < 32) × (10 ≤ left s at)
  unfolding field_number
  task_met e y =
      let a = passed (ltb (left s at) 3) 0 _ e in
      let b = met (is_task s at n) _ 1 (sym (pick_no (is_location s at m) _ _ y) ∙ a.1) in
      let c = passed (leb 32 m) 2 _ b.1 in
      (b.0, nleb→lt 32 m c.0, nltb→le (left s at) 10 (passed (ltb (left s at) 10) 0 0 c.1).0)

  pub location_number : T (is_location s at m) → n < 128 → 12 ≤ left s at → field_number s at n m ≡ 0
  unfolding field_number
  location_number y h l =
      pick_no (ltb (left s at) 3) _ _ (le→nltb (left s at) 3 (omega arith))
      ∙ (pick_yes (is_location s at m) _ _ y ∙ (pick_no (leb 128 n) _ _ (lt→nleb 128 n h) ∙ pick_no (ltb (left s at) 12) _ _ (le→nltb (left s at) 12 l)))

  pub task_number : T (not (is_location s at m)) → T (is_task s at n) → m < 32 → 10 ≤ left s at → field_number s at n m ≡ 0
  unfolding field_number
  task_number x y h l =
      pick_no (ltb (left s at) 3) _ _ (le→nltb (left s at) 3 (omega arith))
      ∙ (pick_no (is_location s at m) _ _ x
      ∙ (pick_yes (is_task s at n) _ _ y ∙ (pick_no (leb 32 m) _ _ (lt→nleb 32 m h) ∙ pick_no (ltb (left s at) 10) _ _ (le→nltb (left s at) 10 l))))

-- ---- one field more, or the end; j calls are one more than k

module _ (j k : ℕ) (s : List ℕ) (at : ℕ) (t : Table) (one_more : j ≡ suc k) where
  field_here : at < length s
      → fields_from j s at t
      ≡ elim (field_number s at t.locations t.tasks) as (λ (n : ℕ). ReadAnswer) [
        | zero ↦ elim (is_location s at t.tasks) as (λ (b : Bool). ReadAnswer) [
          | true ↦ fields_from k s (at + 12) (with_location t (location_of (drop (at + 3) s)))
          | false ↦ fields_from k s (at + 10) (with_task t (task_of (drop (at + 3) s)))
        ]
        | suc n ↦ refused (refusal (suc n) at)
      ]
  unfolding fields_from
  field_here h = ap (λ n. fields_from n s at t) one_more ∙ true_case (ltb at (length s)) _ _ (lt→ltb at (length s) h)

  none_here : length s ≤ at → fields_from j s at t ≡ elim t.locations as (λ (n : ℕ). ReadAnswer) [ zero ↦ refused (refusal 1 at) | suc n ↦ accepted t ]
  unfolding fields_from
  none_here h = ap (λ n. fields_from n s at t) one_more ∙ false_case (ltb at (length s)) _ _ (le→nltb at (length s) h)

  pub location_read : at < length s → field_number s at t.locations t.tasks ≡ 0 → T (is_location s at t.tasks)
      → fields_from j s at t ≡ fields_from k s (at + 12) (with_location t (location_of (drop (at + 3) s)))
  location_read h e y = field_here h ∙ (zero_case (field_number s at t.locations t.tasks) _ (λ n. refused (refusal n at)) e ∙ true_case (is_location s at t.tasks) _ _ y)

  pub task_read : at < length s → field_number s at t.locations t.tasks ≡ 0 → T (not (is_location s at t.tasks))
      → fields_from j s at t ≡ fields_from k s (at + 10) (with_task t (task_of (drop (at + 3) s)))
  task_read h e y = field_here h ∙ (zero_case (field_number s at t.locations t.tasks) _ (λ n. refused (refusal n at)) e ∙ false_case (is_location s at t.tasks) _ _ y)

  pub field_refused : at < length s → ¬ (field_number s at t.locations t.tasks ≡ 0) → fields_from j s at t ≡ refused (refusal (field_number s at t.locations t.tasks) at)
  field_refused h e = field_here h ∙ suc_case (field_number s at t.locations t.tasks) _ (λ n. refused (refusal n at)) e

  pub end_without_location : length s ≤ at → t.locations ≡ 0 → fields_from j s at t ≡ refused (refusal 1 at)
  end_without_location h e = none_here h ∙ zero_case t.locations _ (λ n. accepted t) e

  pub end_read : length s ≤ at → ¬ (t.locations ≡ 0) → fields_from j s at t ≡ accepted t
  end_read h e = none_here h ∙ suc_case t.locations _ (λ n. accepted t) e

-- ---- the judge

module _ (s : List ℕ) where
  pub read_refused : ¬ ((fields_of s).refusal.number ≡ 0) → read_of s ≡ fields_of s
  unfolding read_of
  read_refused h = suc_case (fields_of s).refusal.number _ (λ n. fields_of s) h

  judge_here : (fields_of s).refusal.number ≡ 0
      → read_of s ≡ elim (judged (fields_of s).table).number as (λ (n : ℕ). ReadAnswer) [ zero ↦ fields_of s | suc n ↦ refused (judged (fields_of s).table) ]
  unfolding read_of
  judge_here e = zero_case (fields_of s).refusal.number _ (λ n. fields_of s) e

  pub read_judged : (fields_of s).refusal.number ≡ 0 → ¬ ((judged (fields_of s).table).number ≡ 0) → read_of s ≡ refused (judged (fields_of s).table)
  read_judged e h = judge_here e ∙ suc_case (judged (fields_of s).table).number _ (λ n. refused (judged (fields_of s).table)) h

  pub read_accepted : (fields_of s).refusal.number ≡ 0 → (judged (fields_of s).table).number ≡ 0 → read_of s ≡ fields_of s
  read_accepted e h = judge_here e ∙ zero_case (judged (fields_of s).table).number _ (λ n. refused (judged (fields_of s).table)) h
