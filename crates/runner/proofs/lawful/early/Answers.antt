-- `runner::lawful::early` meets its contract: the search finds the lowest task that is released early. Assumes nothing.
use Rattle.std.proofs.Common.{ℕ, Bool, refl, sym, ◌∙◌, rules, tests}
use Rattle.std.proofs.lemmas.Iterator.{YieldsList-from_range}
use Rattle.std.proofs.lemmas.Iterator.Adapters.{option_map_id}
use Rattle.std.proofs.lemmas.Iterator.Search.{find_from_yields_List}
use Rattle.jobs.specs.Entries.{job_in}
use Rattle.runner.specs.Step.{is_early}
use Rattle.runner.proofs.Passes.{find_first}
use Rattle.runner.proofs.lawful.early.Goals as goal

pub returns : goal.returns
returns c =
    let test : ℕ → Bool = is_early c.args.table.now (job_in c.args.entries.now) c.args.set in
    sym (option_map_id c.find.result)
    ∙ (find_from_yields_List test _ _ c.find.result c.find.ensures.ran (YieldsList-from_range 0 32 32 refl refl) (λ x b q k. search (rules, tests))
    ∙ find_first test 0 32)
