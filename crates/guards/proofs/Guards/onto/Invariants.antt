-- `Guards::onto` meets its contract: the loop keeps that no location below u leads on with x. Assumes nothing.
use Prim.Native.Nat.{◌≤◌}
use Rattle.guards.specs.Lent.{guards_of}
use Rattle.guards.proofs.Held.{NoneBelow}
use Rattle.guards.proofs.Guards.onto.Given as goal

abbrev pub invariant-loop-u : goal.invariant-loop-u
invariant-loop-u l = (1 ≤ l.u) × (l.u ≤ l.self.n) × NoneBelow (guards_of l.self) l.v l.x l.u
