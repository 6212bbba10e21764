-- `record::field_place` meets its contract: the reading's refusal, else AMOUNT past the last field, else where the payload lies.
-- Assumes nothing.
use Rattle.std.proofs.Common.{arith}
use Rattle.std.proofs.lemmas.Result.{err_from_is_err_and}
use Rattle.record.proofs.Question.{answer_unread, table_long, answer_past, answer_payload}
use Rattle.record.proofs.field_place.Goals as goal

pub returns-in_err-table : goal.returns-in_err-table
returns-in_err-table c =
    let y = err_from_is_err_and c.from_residual.result c.from_residual.ensures.1 in
    rw (y.1, y.2) (answer_unread _ _ _ c.in_err-table.ensures)

pub field_count-requires : goal.field_count-requires
field_count-requires c = omega (arith, table_long _ c.args.k _ c.in_ok-table.ensures)

pub returns-then-field_count-k : goal.returns-then-field_count-k
returns-then-field_count-k c = rw c.whole.ensures (answer_past _ _ _ c.in_ok-table.ensures (omega (arith, c.field_count.ensures)))

pub payload-requires-clause-fits : goal.payload-requires-clause-fits
payload-requires-clause-fits c = omega (arith, table_long _ c.args.k _ c.in_ok-table.ensures)

pub returns : goal.returns
returns c = answer_payload _ _ _ c.in_ok-table.ensures _ c.payload.ensures.offset c.payload.ensures.length (omega (arith, c.field_count.ensures))
