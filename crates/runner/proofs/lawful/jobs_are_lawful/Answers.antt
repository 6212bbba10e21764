-- `runner::lawful::jobs_are_lawful` meets its contract: the job of each task is looked at. Assumes nothing.
use Rattle.std.proofs.Common.{ℕ, Bool, refl, ◌∙◌, ◌-◌, rules, tests, arith}
use Rattle.std.proofs.lemmas.Iterator.{YieldsList-from_range}
use Rattle.std.proofs.lemmas.Iterator.Search.{all_from_yields_List}
use Rattle.table.specs.Table.{tasks_of}
use Rattle.jobs.specs.Entries.{job_in}
use Rattle.runner.specs.State.{unlawful, is_lawful_job}
use Rattle.runner.proofs.Passes.{all_keep}
use Rattle.runner.proofs.lawful.jobs_are_lawful.Goals as goal

pub returns : goal.returns
returns c =
    let t = c.args.table.now in
    let js = job_in c.args.entries.now in
    let lawful : ℕ → Bool = λ i. is_lawful_job ((tasks_of t).task i) (js i) in
    all_from_yields_List lawful _ _ c.all.result c.all.ensures.ran (YieldsList-from_range 0 t.tasks (t.tasks - 0) refl refl) (λ x b q k. search (rules, tests))
    ∙ all_keep (unlawful t js) lawful 0 t.tasks (λ i l. absurd (omega arith)) (λ i l. refl)
