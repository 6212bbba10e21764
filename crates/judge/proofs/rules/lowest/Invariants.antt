-- no entry below v breaks the rule
use Rattle.std.proofs.Common.{◌<◌, ℕ, false}
use Rattle.judge.proofs.rules.lowest.Given as goal

abbrev pub invariant-loop-v : goal.invariant-loop-v
invariant-loop-v g l = (i : ℕ) → i < l.v → goal.F-post g l.breaks i false
