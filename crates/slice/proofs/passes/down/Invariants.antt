-- `slice::passes::down` meets its contract: the loop keeps that the entries from i - 1 on are those of the pass. Assumes nothing.
use Prim.Native.Nat.{◌+◌, ◌-◌}
use lib.ListN.{length}
use Rattle.theory.specs.Filling.{down}
use Rattle.table.specs.Columns.{entry}
use Rattle.slice.proofs.Between.{Between}
use Rattle.slice.proofs.passes.down.Given as goal

abbrev pub invariant-loop-i : goal.invariant-loop-i
invariant-loop-i l =
    Between (λ j. down (entry l.initial.out) (length l.initial.out - 1 - j) j) (l.i - 1) (length l.initial.out - 1 + 1) l.initial.out l.out
