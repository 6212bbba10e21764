-- The numbers of one queue's line.
use Rattle.std.specs.Prelude.{ℕ}
use Rattle.table.specs.declared.Table.{Table}
use Rattle.bounds.specs.Questions.{queue_refusal, CycleAnswers}
use Rattle.search.specs.Answered.{verdict_answered}
use Rattle.verdict.specs.Questions.{VerdictAnswers}
use Rattle.listing.specs.declared.rows.Row.{Row}

-- Queue q's cycle least and cycle most, and its verdict.
pub record Says (t : Table) (q : ℕ) (r : Row) : Type 0 where
  pub cycle : CycleAnswers t q (record { refusal = queue_refusal t q; least = r.least; most = r.most })
  pub verdict : VerdictAnswers t q (verdict_answered r.verdict)
