use mathlib.Core.Path.{◌≡◌, refl, sym, ap, ◌∙◌}
use native.Mathlib.Numerals.{add-one}
use native.Mathlib.Omega.{arith}
use lib.Dec.{eqb}
use Rattle.laws.specs.Sum as laws
use Rattle.laws.proofs.Test.{eqb_of, neqb_of, pick_yes, pick_no}
use Rattle.laws.proofs.Sum.{sum_last₀}
use Rattle.theory.specs.Task.{demand_of}
use Rattle.table.specs.declared.Task.{Task}
use Rattle.table.specs.Table.{task_at, as_task}
use Rattle.demand.proofs.due.of_queue.Invariants.{part}
use Rattle.demand.proofs.due.of_queue.Goals as goal
use Rattle.demand.proofs.due.of_queue.Goals.{then-from-queue, else-from-queue}

pub loop-task-init : goal.loop-task-init
unfolding laws.sum
loop-task-init c = (refl, omega arith)

pub loop-task-preserved : goal.loop-task-preserved
loop-task-preserved c =
    let a = c.args in
    let t = a.table.now.table.now in
    let i = c.loop-task.task-index in
    let here = c.tasks-task-items.ensures.each i c.loop-task-test.true in
    let q = (task_at t i).queue in
    let asked = demand_of (as_task (task_at t i)) a.window in
    let last = sum_last₀ (part t a.queue a.window) i in
    let is_queue : c.from.result ≡ q = c.from.ensures ∙ ap (λ (k : Task). k.queue) here in
    elim c.if-from-queue.branch [
      | then-from-queue w ↦
          let own = pick_yes (eqb q a.queue) asked 0 (eqb_of q a.queue (sym is_queue ∙ w.if-from-queue.true)) in
          let more : w.of_task-sum.result ≡ asked = w.of_task-sum.ensures.0 ∙ ap (λ (k : Task). demand_of (as_task k) a.window) here in
          (rw add-one (omega (arith, last, own, c.loop-task.invariant, more, w.sum-is)), omega (arith, c.loop-task.invariant, w.of_task-sum.ensures, w.sum-is))
      | else-from-queue w ↦
          let other = pick_no (eqb q a.queue) asked 0 (neqb_of q a.queue (λ e. w.if-from-queue.false (is_queue ∙ e))) in
          (rw add-one (omega (arith, last, other, c.loop-task.invariant, w.sum-is)), omega (arith, c.loop-task.invariant, w.sum-is))
    ]
