-- `writer::put_tasks` meets its contract. The loop's invariant: the fields of the first i tasks stand after the locations;
-- `tasks_next` is one turn. Assumes nothing.
use mathlib.Core.Path.{◌≡◌}
use lib.Seq.{sets}
use Rattle.format.specs.Format.{task_fields, task_offset}
use Rattle.writer.proofs.put_tasks.Given as goal

abbrev pub invariant-loop-i : goal.invariant-loop-i
invariant-loop-i l = l.s ≡ sets l.initial.s (task_offset l.table 0) (task_fields l.table l.i)
