-- `runner::lawful::rest_is_zero` meets its contract: the entries past the tasks are looked at, and those of the tasks do not count. Assumes nothing.
use Rattle.std.proofs.Common.{ℕ, Bool, refl, ap, ◌∙◌, not, ◌&&◌, ◌-◌, rules, tests}
use Rattle.std.proofs.lemmas.Bool.{le-leb, lt-leb}
use Rattle.std.proofs.lemmas.Iterator.{YieldsList-from_range}
use Rattle.std.proofs.lemmas.Iterator.Search.{all_from_yields_List}
use Rattle.jobs.specs.Entries.{job_in}
use Rattle.runner.specs.State.{is_zero, left_over}
use Rattle.runner.proofs.Passes.{all_keep}
use Rattle.runner.proofs.lawful.rest_is_zero.Goals as goal

pub returns : goal.returns
returns c =
    let n = c.args.n in
    let js = job_in c.args.entries.now in
    let zero : ℕ → Bool = λ i. is_zero (js i) in
    all_from_yields_List zero _ _ c.all.result c.all.ensures.ran (YieldsList-from_range n 32 (32 - n) refl refl) (λ x b q k. search (rules, tests))
    ∙ all_keep (left_over n js) zero n 32 (λ i l. rw (lt-leb n i l) tt) (λ i l. ap (λ past. past && not (zero i)) (le-leb n i l))
