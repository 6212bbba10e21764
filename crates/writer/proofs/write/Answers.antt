-- `writer::write` meets its contract: each return is one of the three cases of Written, by what the judge and `record_length` ensure.
-- What the judge accepts has counts within the limits, as `record_length` and `put_record` ask. Assumes nothing.
use Rattle.std.proofs.Common.{◌≡◌, sym, ap, List, ℕ, ◌≤◌, length, Err, arith}
use Rattle.std.proofs.lemmas.Result.{err_from_is_err_and}
use Rattle.table.specs.declared.Table.{Table}
use Rattle.table.specs.declared.Refusal.{Refusal}
use Rattle.table.specs.declared.refused.Refused.{Refused}
use Rattle.table.specs.Rules.{fine, judged}
use Rattle.table.specs.Reasons.{as_refusal}
use Rattle.table.proofs.Reasons.{number_some}
use Rattle.table.proofs.WellFormed.{judged_counts}
use Rattle.writer.specs.Writing.{write_answered, write_of, written}
use Rattle.writer.proofs.Written.{judge_refuses, room_refuses, write_fits}
use Rattle.writer.proofs.write.Goals as goal

misjudged : (t : Table) (out : List ℕ) (r : Refused) → as_refusal r ≡ judged t → (write_answered (Err r) ≡ write_of t (length out)) × (out ≡ written t out)
misjudged t out r e =
    let (k, some) = number_some r.reason in
    let number = ap (λ (a : Refusal). a.number) e in
    rw e (judge_refuses t out (λ z. absurd (omega arith)))

accepted : (t : Table) → fine ≡ judged t → (judged t).number ≡ 0
accepted t e = sym (ap (λ (a : Refusal). a.number) e)

counts : (t : Table) → fine ≡ judged t → (t.locations ≤ 128) × (t.tasks ≤ 32)
counts t e = judged_counts t (accepted t e)

pub returns-in_err-judge : goal.returns-in_err-judge
returns-in_err-judge c =
    let y = err_from_is_err_and c.from_residual.result c.from_residual.ensures.1 in
    let w = misjudged c.args.table c.args.out.now _ c.in_err-judge.ensures.refusal in
    rw (y.1, y.2) (record { value = w.0; out_after = w.1 })

pub record_length-length-requires : goal.record_length-length-requires
record_length-length-requires c = omega (arith, counts _ c.in_ok-judge.ensures.refusal)

pub returns-then-out-length : goal.returns-then-out-length
returns-then-out-length c =
    let w = room_refuses c.args.table c.args.out.now (accepted _ c.in_ok-judge.ensures.refusal) (omega (arith, c.record_length-length.ensures, c.if-out-length.true)) in
    rw c.whole.ensures (record { value = w.0; out_after = w.1 })

pub put_record-requires : goal.put_record-requires
put_record-requires c =
    let (locations, tasks) = counts c.args.table c.in_ok-judge.ensures.refusal in
    record { locations_fit = locations; tasks_fit = tasks; room = omega (arith, c.record_length-length.ensures, c.if-out-length.false) }

pub returns : goal.returns
returns c =
    let w = write_fits c.args.table c.args.out.now (accepted _ c.in_ok-judge.ensures.refusal) (omega (arith, c.record_length-length.ensures, c.if-out-length.false)) in
    rw (c.record_length-length.ensures, c.put_record.ensures) (record { value = w.0; out_after = w.1 })
