-- `runner::steps::accepted` meets its contract: its passes are the step rules, one after the other. Assumes nothing.
use Rattle.std.proofs.Common.{◌≡◌, sym, ap, ◌∙◌, ℕ, ◌≤◌, ◌<◌, List, Option, is_some, unwrap_or, rules, arith}
use mathlib.Core.Path.{ap₂}
use Rattle.laws.specs.Bits.{in_set, set_of}
use Rattle.theory.specs.Job.{Job, is_late, drop}
use Rattle.theory.specs.Steps.{released, earliest}
use Rattle.table.specs.declared.Table.{Table}
use Rattle.table.specs.Table.{location_at, tasks_of}
use Rattle.table.specs.Rules.{fine}
use Rattle.job.specs.declared.Job.{Job as Entry}
use Rattle.jobs.specs.Entries.{job_in, row, choice_of, chosen_by, aged}
use Rattle.jobs.proofs.Service.{chosen_below}
use Rattle.runner.specs.State.{job_at}
use Rattle.runner.specs.Step.{stepped}
use Rattle.table.proofs.Known.{well_formed}
use Rattle.runner.proofs.Rounds.{chosen, chosen_as, late, late_as, jobs_as}
use Rattle.runner.proofs.steps.accepted.Goals as goal

-- what the passes leave, by the laws of their rounds
module _ (t : Table) (few : t.tasks ≤ 32) (js : ℕ → Job) (set q x : ℕ) (queue_is : x ≡ q) (entries : List Entry) (released-is : entries ≡ row t.tasks (released (tasks_of t) (in_set set) js))
    (choice : Option ℕ) (found : choice ≡ choice_of (earliest (tasks_of t) x (job_in entries))) where
  choice-is : choice ≡ choice_of (chosen t few js set q)
  choice-is = found ∙ ap₂ (λ x entries. choice_of (earliest (tasks_of t) x (job_in entries))) queue_is released-is

  aged-is : row t.tasks (aged t (chosen_by choice) (job_in entries)) ≡ late t few js set q
  aged-is = ap₂ (λ x entries. row t.tasks (aged t (chosen_by x) (job_in entries))) choice-is released-is

pub invariant_of-tasks : goal.invariant_of-tasks
invariant_of-tasks c = record { few = (well_formed c.args.table.now).tasks }

pub map-requires : goal.map-requires
map-requires c = λ i is told ranges.
    let few = (well_formed c.args.table.now).tasks in
    let below : i < c.args.table.now.table.now.tasks = chosen_below _ _ c.args.table.now.table.now.tasks i (sym c.earliest-choice.ensures ∙ is) in
    record { fits = omega (arith, few, below) }

pub returns : goal.returns
unfolding stepped
returns c =
    let t = c.args.table.now.table.now in
    let s = c.args.state.now in
    let set = c.args.set in
    let x = (location_at t c.from.result).queue in
    let q = (location_at t s.location).queue in
    let queue_is : x ≡ q = ap (λ v. (location_at t v).queue) c.from.ensures in
    let few : t.tasks ≤ 32 = (well_formed c.args.table.now).tasks in
    let found = choice-is t few (job_at s) set q x queue_is c.release-waiting.result c.release-waiting.ensures c.earliest-choice.result c.earliest-choice.ensures in
    let aged = c.age-aged.ensures ∙ aged-is t few (job_at s) set q x queue_is c.release-waiting.result c.release-waiting.ensures c.earliest-choice.result c.earliest-choice.ensures in
    let mapped : c.map.result ≡ c.earliest-choice.result = search rules in
    let choice = mapped ∙ (found ∙ ap choice_of (chosen_as t few (job_at s) set q)) in
    let named = c.late_set.ensures ∙ (ap (λ entries. set_of (λ i. is_late (job_in entries i)) t.tasks) aged ∙ late_as t few (job_at s) set q) in
    let jobs = c.drop_late.ensures ∙ (ap (λ entries. row t.tasks (λ i. drop (job_in entries i))) aged ∙ jobs_as t few (job_at s) set q) in
    let place = c.next-there.ensures in
    λ i. record {
      refusal = fine;
      state = record { location = (place i).location; done = (place i).done; jobs = jobs i };
      queue = queue_is i;
      served = is_some (choice i);
      task = unwrap_or (choice i) 0;
      late = named i;
    }

pub bounds-table-from : goal.bounds-table-from
bounds-table-from c = omega (arith, c.from.ensures, c.requires.location, (well_formed c.args.table.now).locations)
