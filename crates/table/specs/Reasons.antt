-- A refusal as an error, and as the numbers that C is given.
use Rattle.std.specs.Prelude.{ℕ, Result, Ok, Err}
use Rattle.table.specs.declared.Refusal.{Refusal}
use Rattle.table.specs.declared.refused.Refused.{Refused}
use Rattle.table.specs.declared.refused.Reason.{Reason}
use Rattle.table.specs.declared.refused.Reason.TheVariants.{Cut, Field, Count, Value, Shape, Gap, Overlap, Period, Task, Queue, Amount, Never, Horizon, State, Early, Room}
use Rattle.table.specs.Rules.{refusal, fine}

abbrev pub number : Reason → ℕ
number Cut = 1
number Field = 2
number Count = 3
number Value = 4
number Shape = 5
number Gap = 6
number Overlap = 7
number Period = 8
number Task = 9
number Queue = 10
number Amount = 11
number Never = 12
number Horizon = 13
number State = 14
number Early = 15
number Room = 16

abbrev pub as_refusal : Refused → Refusal
as_refusal r = refusal (number r.reason) r.place

-- What a result says of a refusal: none beside an answer.
abbrev pub outcome : {A : Type 0} → Result A Refused → Refusal
outcome (Ok a) = fine
outcome (Err r) = as_refusal r
