-- `runner::places::next` meets its contract: the numbers fit, since a location has at most 1,024 ticks, a variable is below 8 and the table has at most 128 locations.
-- Assumes nothing.
use Rattle.std.proofs.Common.{arith}
use Rattle.table.specs.Table.{tree_of}
use Rattle.runner.specs.Step.{value_at}
use Rattle.table.proofs.Known.{well_formed}
use Rattle.runner.proofs.Leads.{onto_inside}
use Rattle.runner.proofs.places.next.Goals as goal

pub overflow_add-done : goal.overflow_add-done
overflow_add-done c =
    let known = well_formed c.args.table.now in
    record { fits = omega (arith, known.ticks c.args.place.location c.requires.0) }

pub bounds-values-from : goal.bounds-values-from
bounds-values-from c =
    let known = well_formed c.args.table.now in
    let small = rw (← c.from-v.ensures) at (known.variable c.args.place.location c.requires.0) in
    omega (arith, c.from.ensures, small)

pub overflow_cast-result : goal.overflow_cast-result
overflow_cast-result c =
    let t = c.args.table.now.table.now in
    let known = well_formed c.args.table.now in
    record { fits = omega (arith, known.locations, c.onto.ensures, onto_inside (tree_of t) c.from-v.result (value_at c.args.values c.from.result) known.locations.0) }

pub bounds-table-v : goal.bounds-table-v
bounds-table-v c = omega (arith, c.from-v.ensures, c.requires.0, (well_formed c.args.table.now).locations)

pub onto-requires : goal.onto-requires
onto-requires c = omega (arith, c.from-v.ensures, c.requires.0, (well_formed c.args.table.now).locations)
