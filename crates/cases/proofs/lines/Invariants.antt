-- `cases::lines` ends, since each question takes at least a byte. Assumes nothing.
use Rattle.std.proofs.Common.{length}
use Rattle.cases.proofs.lines.Given as goal

abbrev pub decreases-loop-question : goal.decreases-loop-question
decreases-loop-question g l = length l.rest
