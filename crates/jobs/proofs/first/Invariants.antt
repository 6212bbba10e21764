-- `jobs::first` meets its contract: the first i entries are the jobs that the step makes, the others are 0. Assumes nothing.
use Rattle.std.proofs.Common.{◌≡◌, ℕ}
use Rattle.theory.specs.Job.{Job}
use Rattle.jobs.specs.Entries.{row, Makes}
use Rattle.jobs.proofs.first.Given as goal

abbrev pub invariant-loop-i : goal.invariant-loop-i
invariant-loop-i g l = (js : ℕ → Job) → Makes (goal.F-post g l.of) l.i js → l.jobs ≡ row l.i js
