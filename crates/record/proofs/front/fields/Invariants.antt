-- `record::front::fields` meets its contract. The loop keeps that the table read so far takes up just the bytes before `at`, and that
-- the answer of the whole is the answer of the fields from `at` on; each way out is then one law of reading by cases. Each turn passes
-- a field, so the bytes left fall. Assumes nothing.
use mathlib.Core.Path.{◌≡◌}
use Prim.Native.Nat.{◌+◌, ◌-◌, ◌≤◌}
use lib.ListN.{length}
use Rattle.format.specs.Format.{record_length}
use Rattle.record.specs.Reading.{fields_from, most_fields, fields_of}
use Rattle.record.proofs.front.fields.Given as goal

abbrev pub invariant-loop-at : goal.invariant-loop-at
invariant-loop-at l = record {
  taken_up : l.at ≡ record_length l.table;
  locations_fit : l.table.locations ≤ 128;
  tasks_fit : l.table.tasks ≤ 32;
  in_bounds : l.at ≤ length l.s;
  reads_on : fields_of l.s ≡ fields_from (most_fields - (l.table.locations + l.table.tasks)) l.s l.at l.table;
}

abbrev pub decreases-loop-at : goal.decreases-loop-at
decreases-loop-at l = length l.s - l.at
