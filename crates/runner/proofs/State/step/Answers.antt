-- `runner::State::step` meets its contract: a step without a refusal has found a lawful state, which the rules ask for. Assumes nothing.
use Rattle.std.proofs.Common.{sym, ap, subst, ◌∙◌}
use Rattle.std.proofs.lemmas.Result.{err_from_is_err_and}
use Rattle.table.specs.declared.Refusal.{Refusal}
use Rattle.runner.specs.State.{Lawful}
use Rattle.runner.specs.Step.{stepped}
use Rattle.runner.proofs.Agrees.{lawful_says}
use Rattle.runner.proofs.Refusals.{step_err, step_given, accepted_passes}
use Rattle.runner.proofs.State.step.Goals as goal

pub returns-in_err-table : goal.returns-in_err-table
returns-in_err-table c =
    let a = c.args in
    let p = err_from_is_err_and c.from_residual.result c.from_residual.ensures.1 in
    rw (p.1, p.2) (step_err a.table a.self.now a.released a.values _ c.in_err-table.ensures.refusal)

pub accepted-requires : goal.accepted-requires
accepted-requires c =
    let a = c.args in
    let e = ap (λ (r : Refusal). r.number) (sym c.in_ok-table.ensures.refusal) in
    subst (λ t. Lawful t a.self.now) (sym c.in_ok-table.ensures.kept) (lawful_says a.table a.self.now (accepted_passes a.table a.self.now a.released e).state)

pub returns : goal.returns
returns c =
    let a = c.args in
    let e = ap (λ (r : Refusal). r.number) (sym c.in_ok-table.ensures.refusal) in
    c.accepted.ensures
    ∙ (ap (λ t. stepped t a.self.now a.values a.released) c.in_ok-table.ensures.kept ∙ sym (step_given a.table a.self.now a.released a.values e))
