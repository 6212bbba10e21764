-- `verdict::supply_of` meets its contract: an array of 2,048 entries has room for the filling of every table. Assumes nothing.
use native.Mathlib.Omega.{arith}
use Rattle.table.proofs.Known.{well_formed}
use Rattle.verdict.proofs.supply_of.Goals as goal

pub leasts-requires : goal.leasts-requires
leasts-requires c = omega (arith, (well_formed c.args.table.now).period)
