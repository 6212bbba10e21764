-- `filling::walks::upward` meets its contract: first a's own point, then those from its parent up. It ends because a parent's number is
-- below its child's. Assumes nothing.
use Rattle.filling.proofs.walks.+upward.Given as goal

abbrev pub decreases-upward : goal.decreases-upward
decreases-upward l = l.a
