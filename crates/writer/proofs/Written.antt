-- What writing answers and leaves, in each of its three cases: judged, no room, written. Assumes nothing.
use mathlib.Core.Path.{◌≡◌, sym, ap, ◌∙◌}
use mathlib.Core.List.{List}
use Prim.Native.Nat.{ℕ, ◌≤◌, ◌<◌}
use native.Mathlib.Omega.{arith}
use lib.ListN.{length}
use lib.Seq.{sets}
use lib.Dec.{ltb, lt→ltb}
use lib.Arith.{le→nltb}
use Rattle.laws.proofs.Cases.{zero_case, suc_case, true_case, false_case}
use Rattle.table.specs.declared.Table.{Table}
use Rattle.table.specs.declared.Refusal.{Refusal}
use Rattle.table.specs.Rules.{refusal, fine, judged}
use Rattle.format.specs.Format.{record_of, record_length}
use Rattle.writer.specs.declared.WriteAnswer.{WriteAnswer}
use Rattle.writer.specs.Writing.{write_refusal, write_of, written}

-- What stands beside a refusal.
abbrev refused : Refusal → WriteAnswer
refused r = record { refusal = r; length = 0 }

module _ (t : Table) (out : List ℕ) where
  refused_writing : ((write_refusal t (length out)).number ≡ 0 → ⊥) → (refused (write_refusal t (length out)) ≡ write_of t (length out)) × (out ≡ written t out)
  unfolding write_of written
  refused_writing h =
      let r = write_refusal t (length out) in
      (sym (suc_case r.number _ (λ n. refused r) h), sym (suc_case r.number _ (λ n. out) h))

  pub judge_refuses : ((judged t).number ≡ 0 → ⊥) → (refused (judged t) ≡ write_of t (length out)) × (out ≡ written t out)
  unfolding write_refusal
  judge_refuses h =
      let e : write_refusal t (length out) ≡ judged t = suc_case (judged t).number _ (λ n. judged t) h in
      rw e at (refused_writing (rw e h))

  pub room_refuses : (judged t).number ≡ 0 → length out < record_length t → (refused (refusal 16 0) ≡ write_of t (length out)) × (out ≡ written t out)
  unfolding write_refusal
  room_refuses z h =
      let test = true_case (ltb (length out) (record_length t)) _ _ (lt→ltb _ _ h) in
      let e : write_refusal t (length out) ≡ refusal 16 0 = zero_case (judged t).number _ (λ n. judged t) z ∙ test in
      rw e at (refused_writing (rw e (λ z. omega arith)))

  pub write_fits : (judged t).number ≡ 0 → record_length t ≤ length out → (record { refusal = fine; length = record_length t } ≡ write_of t (length out)) × (sets out 0 (record_of t) ≡ written t out)
  unfolding write_refusal write_of written
  write_fits z h =
      let r = write_refusal t (length out) in
      let test = false_case (ltb (length out) (record_length t)) _ _ (le→nltb _ _ h) in
      let e : r.number ≡ 0 = ap (λ r. r.number) (zero_case (judged t).number _ (λ n. judged t) z ∙ test) in
      (sym (zero_case r.number _ (λ n. refused r) e), sym (zero_case r.number _ (λ n. out) e))
