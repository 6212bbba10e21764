-- What C is given for an answer: zeros beside a refusal.
use Rattle.std.specs.Prelude.{ℕ, Result, Ok, Err}
use Rattle.table.specs.declared.refused.Refused.{Refused}
use Rattle.table.specs.Rules.{fine}
use Rattle.table.specs.Reasons.{as_refusal}
use Rattle.bounds.specs.declared.TicksAnswer.{TicksAnswer}
use Rattle.bounds.specs.declared.CycleAnswer.{CycleAnswer}
use Rattle.bounds.specs.declared.CycleTicks.{CycleTicks}

abbrev pub ticks_answered : Result ℕ Refused → TicksAnswer
ticks_answered (Ok n) = record { refusal = fine; ticks = n }
ticks_answered (Err r) = record { refusal = as_refusal r; ticks = 0 }

abbrev pub cycle_answered : Result CycleTicks Refused → CycleAnswer
cycle_answered (Ok c) = record { refusal = fine; least = c.least; most = c.most }
cycle_answered (Err r) = record { refusal = as_refusal r; least = 0; most = 0 }
