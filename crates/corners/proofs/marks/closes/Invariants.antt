-- `corners::marks::closes` meets its contract: the loop keeps the marks among the first v locations. Assumes nothing.
use Rattle.laws.specs.Test.{bit}
use Rattle.corners.proofs.Closing.{Closing}
use Rattle.corners.proofs.marks.closes.Given as goal

abbrev pub invariant-loop-v : goal.invariant-loop-v
invariant-loop-v l = Closing l.tree.parents l.tree.flags l.ends (bit l.tree.pass) l.tree.period l.v l.out
