use Rattle.std.proofs.Common.{◌≡◌, sym, ap, ◌∙◌, ℕ, ◌<◌, Bool, get_or, option_map, rules, arith}
use Rattle.laws.specs.Found.{best}
use Rattle.laws.proofs.Best.{best_none, best_more}
use Rattle.theory.specs.Steps.{waits}
use Rattle.table.specs.Table.{tasks_of}
use Rattle.job.specs.declared.Job.{Job as Entry}
use Rattle.job.specs.Entry.{no_job}
use Rattle.jobs.specs.Entries.{job_in, choice_of}
use Rattle.jobs.proofs.Service.{chosen_below, takes, takes_yes, takes_no}
use Rattle.jobs.proofs.Tasks.earliest.Goals as goal
use Rattle.jobs.proofs.Tasks.earliest.Goals.{then-is_sooner, else-is_sooner}

pub loop-i-init : goal.loop-i-init
loop-i-init c = ap choice_of (sym (best_none (waits (tasks_of c.args.self.now.table.now) c.args.queue (job_in c.args.entries.now)) (λ i. (job_in c.args.entries.now i).left)))

pub map-requires : goal.map-requires
map-requires c = λ best is.
    let below : best < c.loop-i.i = chosen_below _ _ c.loop-i.i best (sym c.loop-i.invariant ∙ is) in
    (λ κs bytes told ranges. record { fits = omega arith }, λ κs bytes told ranges. omega arith)

pub loop-i-preserved : goal.loop-i-preserved
loop-i-preserved c =
    let i = c.loop-i.i in
    let waiting : ℕ → Bool = waits (tasks_of c.args.self.now.table.now) c.args.queue (job_in c.args.entries.now) in
    let entry : ℕ → Entry = λ i. get_or c.args.entries.now i no_job in
    let o = best waiting (λ i. (entry i).left) i in
    let mapped : c.map.result ≡ option_map entry c.loop-i.best = search rules in
    let told : c.is_sooner.result ≡ takes waiting entry i o = rw (mapped, c.loop-i.invariant) at c.is_sooner.ensures in
    let more = ap choice_of (best_more waiting (λ i. (entry i).left) i) in
    elim c.if-is_sooner.branch [
      | then-is_sooner w ↦ w.best-is ∙ (ap choice_of (sym (takes_yes waiting entry i o (sym told ∙ w.if-is_sooner.true))) ∙ sym more)
      | else-is_sooner w ↦ w.best-is ∙ (c.loop-i.invariant ∙ (ap choice_of (sym (takes_no waiting entry i o (sym told ∙ w.if-is_sooner.false))) ∙ sym more))
    ]
