-- `corners::rest::rests` meets its contract: the loop keeps the rests from v on, and before v the least of the children met. Assumes
-- nothing.
use Rattle.corners.proofs.Resting.{Resting}
use Rattle.corners.proofs.rest.rests.Given as goal

abbrev pub invariant-loop-v : goal.invariant-loop-v
invariant-loop-v l = Resting l.tree l.v l.out
