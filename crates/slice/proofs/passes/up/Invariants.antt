-- `slice::passes::up` meets its contract: the loop keeps that the entries before i are those of the pass. Assumes nothing.
use Prim.Native.Nat.{◌+◌, ◌≤◌}
use lib.ListN.{length}
use Rattle.theory.specs.Filling.{up}
use Rattle.table.specs.Columns.{entry}
use Rattle.slice.proofs.Between.{Between}
use Rattle.slice.proofs.passes.up.Given as goal

abbrev pub invariant-loop-i : goal.invariant-loop-i
invariant-loop-i l = (l.i ≤ length l.initial.out + 1) × Between (up (entry l.initial.out)) 0 l.i l.initial.out l.out
