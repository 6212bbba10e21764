-- `runner::steps::checked` meets its contract, by its tests in their order. Assumes nothing.
use Rattle.std.proofs.Common.{sym, ap, ◌∙◌}
use Rattle.table.specs.Reasons.{as_refusal}
use Rattle.std.proofs.lemmas.Result.{err_from_is_err_and}
use Rattle.table.proofs.Known.{well_formed}
use Rattle.runner.proofs.Refusals.{table_err, state_err, early_says}
use Rattle.runner.proofs.steps.checked.Goals as goal

pub returns-in_err-accepted-clause-refusal : goal.returns-in_err-accepted-clause-refusal
returns-in_err-accepted-clause-refusal c =
    let a = c.args in
    let p = err_from_is_err_and c.from_residual.result c.from_residual.ensures.1 in
    rw (p.1, p.2) (table_err a.table.now a.state.now a.set _ c.in_err-accepted.ensures.refusal)

pub is_lawful-requires : goal.is_lawful-requires
is_lawful-requires c =
    let known = well_formed c.in_ok-accepted.accepted in
    (known.locations.1, known.tasks)

pub returns-then-not-is_lawful-clause-refusal : goal.returns-then-not-is_lawful-clause-refusal
returns-then-not-is_lawful-clause-refusal c =
    let a = c.args in
    let told = rw c.in_ok-accepted.ensures.kept at c.is_lawful.ensures in
    ap as_refusal c.whole.ensures ∙ state_err a.table.now a.state.now a.set c.in_ok-accepted.ensures.refusal (sym told ∙ c.if-not-is_lawful.true)

pub returns-in-Some-clause-refusal : goal.returns-in-Some-clause-refusal
returns-in-Some-clause-refusal c =
    let a = c.args in
    let told = rw c.in_ok-accepted.ensures.kept at c.is_lawful.ensures in
    let first = rw c.in_ok-accepted.ensures.kept at c.early.ensures in
    early_says a.table.now a.state.now a.set c.in_ok-accepted.ensures.refusal (sym told ∙ c.if-not-is_lawful.false) _ (sym first ∙ c.in-Some.is)

pub returns-in-None-clause-refusal : goal.returns-in-None-clause-refusal
returns-in-None-clause-refusal c =
    let a = c.args in
    let told = rw c.in_ok-accepted.ensures.kept at c.is_lawful.ensures in
    let first = rw c.in_ok-accepted.ensures.kept at c.early.ensures in
    early_says a.table.now a.state.now a.set c.in_ok-accepted.ensures.refusal (sym told ∙ c.if-not-is_lawful.false) _ (sym first ∙ c.in-None.is)
