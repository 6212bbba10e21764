-- `Guards::has_gap` meets its contract: the loop keeps that each value below x is in some child's guard, and x rises to past the
-- high of the child that holds it. Assumes nothing.
use Prim.Native.Nat.{suc, ◌-◌, ◌≤◌}
use Rattle.theory.specs.Guards.{top}
use Rattle.guards.specs.Lent.{guards_of}
use Rattle.guards.proofs.Held.{FullBelow}
use Rattle.guards.proofs.Guards.has_gap.Given as goal

abbrev pub invariant-loop-v : goal.invariant-loop-v
invariant-loop-v l = (l.x ≤ top) × FullBelow (guards_of l.self) l.v l.x

abbrev pub decreases-loop-v : goal.decreases-loop-v
decreases-loop-v l = suc top - l.x
