-- The records that are accepted are the records of well-formed tables: what the fields hold is judged, and reading and writing are
-- one another's inverse. So each field of an accepted record is where the table says. Assumes nothing.
use mathlib.Core.Path.{◌≡◌, sym, ap, subst, ◌∙◌}
use mathlib.Core.List.{List}
use mathlib.Core.Logic.{◌↔◌, inl, inr}
use Prim.Native.Nat.{ℕ}
use native.Mathlib.Omega.{arith}
use lib.ListN.{take, drop}
use Rattle.laws.proofs.Test.{le_or_lt}
use Rattle.table.specs.declared.Table.{Table}
use Rattle.table.specs.declared.Refusal.{Refusal}
use Rattle.table.specs.Table.{Same}
use Rattle.table.specs.Rules.{fine, judged, WellFormed}
use Rattle.table.proofs.Unbroken.{refused_number}
use Rattle.table.proofs.WellFormed.{judged_well_formed, well_formed_judged}
use Rattle.table.proofs.Same.{judged_same}
use Rattle.table.proofs.Widths.{high_in_width, GapInWidth, well_formed_in_width}
use Rattle.format.specs.Format.{record_of, payload_offset, payload_length}
use Rattle.record.specs.declared.ReadAnswer.{ReadAnswer}
use Rattle.record.specs.Reading.{fields_of, read_of}
use Rattle.record.proofs.Payloads.{Bytes}
use Rattle.record.proofs.Places.{payload_at}
use Rattle.record.proofs.Fields.{read_refused, read_judged, read_accepted}
use Rattle.record.proofs.WrittenReads.{written_reads}
use Rattle.record.proofs.ReadWrites.{Writes, fields_number, fields_written}

-- ---- what was written is accepted

pub well_formed_reads : (t : Table) → WellFormed t → GapInWidth t → ((read_of (record_of t)).refusal ≡ fine) × Same (read_of (record_of t)).table t
well_formed_reads t w gap =
    let s = record_of t in
    let (e, same) = written_reads t (well_formed_in_width t w gap) w.locations.0 w.locations.1 w.tasks in
    let j = judged_same (fields_of s).table t same ∙ well_formed_judged t w in
    let a = read_accepted s (ap (λ (r : Refusal). r.number) e) (ap (λ (r : Refusal). r.number) j) in
    (ap (λ (x : ReadAnswer). x.refusal) a ∙ e, subst (λ (x : ReadAnswer). Same x.table t) (sym a) same)

-- ---- what is accepted was written

module _ (s : List ℕ) where
  -- neither the fields nor the judge refuse it
  accepted_parts : (read_of s).refusal.number ≡ 0 → ((fields_of s).refusal.number ≡ 0) × ((judged (fields_of s).table).number ≡ 0)
  accepted_parts e = elim (le_or_lt (fields_of s).refusal.number 0) [
    | inl f ↦ elim (le_or_lt (judged (fields_of s).table).number 0) [
      | inl j ↦ (omega arith, omega arith)
      | inr j ↦ absurd (omega (arith, ap (λ (x : ReadAnswer). x.refusal.number) (read_judged s (omega arith) (omega arith))))
    ]
    | inr f ↦ absurd (omega (arith, ap (λ (x : ReadAnswer). x.refusal.number) (read_refused s (omega arith))))
  ]

  -- the answer is the fields' answer
  accepted_fields : (read_of s).refusal.number ≡ 0 → read_of s ≡ fields_of s
  accepted_fields e = let (f, j) = accepted_parts e in read_accepted s f j

module _ (s : List ℕ) (b : Bytes s) (e : (read_of s).refusal ≡ fine) where
  number_zero : (read_of s).refusal.number ≡ 0
  number_zero = ap (λ (r : Refusal). r.number) e

  pub accepted_writes : Writes (read_of s).table s
  accepted_writes = subst (λ (x : ReadAnswer). Writes x.table s) (sym (accepted_fields s number_zero)) (fields_written s b (fields_number s b (accepted_parts s number_zero).0))

  pub read_writes : record_of (read_of s).table ≡ s
  read_writes = accepted_writes.back

  pub accepted_well_formed : WellFormed (read_of s).table
  accepted_well_formed =
      let j = subst (λ (x : ReadAnswer). (judged x.table).number ≡ 0) (sym (accepted_fields s number_zero)) (accepted_parts s number_zero).1 in
      judged_well_formed (read_of s).table (high_in_width (read_of s).table accepted_writes.in_width) (refused_number (read_of s).table j)

  -- ---- its fields

  pub payload_is : (k : ℕ) → take (payload_length (read_of s).table k) (drop (payload_offset (read_of s).table k) s) ≡ payload_at (read_of s).table k
  payload_is k = ap (λ (x : List ℕ). take (payload_length (read_of s).table k) (drop (payload_offset (read_of s).table k) x)) (sym read_writes)

-- ---- so they are the same

pub accepted_are_written : (s : List ℕ) → Bytes s → ((read_of s).refusal ≡ fine) ↔ ((t : Table) × WellFormed t × GapInWidth t × (record_of t ≡ s))
accepted_are_written s b = (
  λ e. let w = accepted_writes s b e in ((read_of s).table, accepted_well_formed s b e, λ i l. (w.in_width.task i l).gap, w.back),
  λ h. subst (λ (x : List ℕ). (read_of x).refusal ≡ fine) h.3 (well_formed_reads h.0 h.1 h.2).0,
)
