-- `slice::passes::ramp` meets its contract: the loop keeps that the entries before i are the ramp. Assumes nothing.
use Rattle.slice.proofs.Between.{Between}
use Rattle.slice.proofs.passes.ramp.Given as goal

abbrev pub invariant-loop-i : goal.invariant-loop-i
invariant-loop-i l = Between (λ j. j) 0 l.i l.initial.out l.out
