use mathlib.Core.Path.{◌∙◌}
use native.Mathlib.Omega.{arith}
use Rattle.table.proofs.Known.{well_formed}
use Rattle.supply.proofs.Supply.{cycle_le, entry_small, supply_is, supplied}
use Rattle.supply.proofs.queues.Supply.at.Goals as goal

pub at-requires-clause-in_bounds : goal.at-requires-clause-in_bounds
at-requires-clause-in_bounds c =
    let s = c.args.self.now in
    let formed = well_formed s.table.now in
    let period = formed.period in
    (omega (arith, period), omega (arith, period), omega (arith, period, cycle_le _ formed s.queue _ s.cycle (supplied s)), omega arith)

pub at-requires-clause-filled_in_bounds : goal.at-requires-clause-filled_in_bounds
at-requires-clause-filled_in_bounds c = let s = c.args.self.now in entry_small _ (well_formed s.table.now) s.queue s.filled.now s.cycle (supplied s)

pub returns : goal.returns
returns c = let s = c.args.self.now in c.at.ensures ∙ supply_is _ (well_formed s.table.now) s.queue s.filled.now s.cycle (supplied s) c.args.window
