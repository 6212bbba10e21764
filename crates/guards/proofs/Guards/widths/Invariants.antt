-- `Guards::widths` meets its contract: the loop keeps the sum over the locations below u, at most 65,536 for each. Assumes nothing.
use Prim.Native.Nat.{◌*◌, ◌≤◌}
use mathlib.Core.Path.{◌≡◌}
use Rattle.guards.specs.Lent.{guards_of}
use Rattle.guards.specs.Children.{widths_in}
use Rattle.guards.proofs.Guards.widths.Given as goal

abbrev pub invariant-loop-u : goal.invariant-loop-u
invariant-loop-u l = (1 ≤ l.u) × (l.u ≤ l.self.n) × (l.sum ≡ widths_in (guards_of l.self) l.v l.u) × (l.sum ≤ 65536 * l.u)
