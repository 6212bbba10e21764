-- `corners::marks::opens` meets its contract: the loop keeps that the first v entries are marks. Assumes nothing.
use mathlib.Core.Path.{◌≡◌}
use lib.ListN.{length}
use Rattle.laws.specs.Test.{bit}
use Rattle.corners.specs.Lent.{Marks, opens_over}
use Rattle.corners.proofs.marks.opens.Given as goal

abbrev pub invariant-loop-v : goal.invariant-loop-v
invariant-loop-v l = (length l.out ≡ 128) × Marks l.v (opens_over l.tree.parents l.tree.flags (bit l.tree.pass)) l.out
