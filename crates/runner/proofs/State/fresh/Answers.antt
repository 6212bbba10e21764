-- `runner::State::fresh` meets its contract: the judge's error is the refusal, and a table without one has at most 32 tasks. Assumes nothing.
use Rattle.std.proofs.lemmas.Result.{err_from_is_err_and}
use Rattle.table.proofs.Known.{well_formed}
use Rattle.runner.proofs.Refusals.{fresh_err, fresh_ok}
use Rattle.runner.proofs.State.fresh.Goals as goal

pub returns-in_err-accepted : goal.returns-in_err-accepted
returns-in_err-accepted c =
    let p = err_from_is_err_and c.from_residual.result c.from_residual.ensures.1 in
    rw (p.1, p.2) (fresh_err c.args.table _ c.in_err-accepted.ensures.refusal)

pub invariant_of-tasks : goal.invariant_of-tasks
invariant_of-tasks c = record { few = (well_formed c.in_ok-accepted.accepted).tasks }

pub returns : goal.returns
returns c =
    let jobs = rw c.in_ok-accepted.ensures.kept at c.fresh.ensures in
    fresh_ok c.args.table _ c.in_ok-accepted.ensures.refusal (λ i. record { location = 0; done = 0; jobs = jobs i })
