-- `writer::put_locations` meets its contract. The loop's invariant: the fields of the first v locations stand after the header;
-- `locations_next` is one turn. Assumes nothing.
use mathlib.Core.Path.{◌≡◌}
use lib.Seq.{sets}
use Rattle.format.specs.Format.{location_fields}
use Rattle.writer.proofs.put_locations.Given as goal

abbrev pub invariant-loop-v : goal.invariant-loop-v
invariant-loop-v l = l.s ≡ sets l.initial.s 7 (location_fields l.table l.v)
