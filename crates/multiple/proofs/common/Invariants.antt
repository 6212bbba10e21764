-- `multiple::common` meets its contract: the loop keeps that no multiple passed is one of the gap, so the first that is one is the
-- least common multiple, and past the limit that is past it too. Assumes nothing.
use Prim.Native.Nat.{◌-◌}
use Rattle.multiple.proofs.Multiples.{Stepped}
use Rattle.multiple.proofs.common.Given as goal

abbrev pub invariant-loop-multiple : goal.invariant-loop-multiple
invariant-loop-multiple l = Stepped l.base l.gap l.multiple

abbrev pub decreases-loop-multiple : goal.decreases-loop-multiple
decreases-loop-multiple l = 1000001 - l.multiple
