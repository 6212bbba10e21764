-- `search::verdicts::decide` meets its contract: from block to block the loop keeps that no window before the next deadline is short, and
-- what the deadlines and the demand are there; within a block the same of each window. Assumes nothing.
use Rattle.search.proofs.Swept.{SweptTo, Scanned, remaining}
use Rattle.search.proofs.verdicts.decide.Given as goal

abbrev pub invariant-loop-i : goal.invariant-loop-i
invariant-loop-i l = Scanned l.supply.table.now.table.now l.supply.queue l.deadlines.series l.deadlines.count l.work-items l.start l.demand l.i

abbrev pub invariant-loop-start : goal.invariant-loop-start
invariant-loop-start l = SweptTo l.supply.table.now.table.now l.supply.queue l.deadlines.series l.deadlines.count l.demand l.next

abbrev pub decreases-loop-start : goal.decreases-loop-start
decreases-loop-start l = remaining l.multiple l.next
