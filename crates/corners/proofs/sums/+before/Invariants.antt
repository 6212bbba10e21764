-- `corners::sums::before` meets its contract, by what is kept, and by the two laws of a path's sum. It ends because a parent's number is
-- below its child's. Assumes nothing.
use Rattle.corners.proofs.sums.+before.Given as goal

abbrev pub decreases-before : goal.decreases-before
decreases-before l = l.v
