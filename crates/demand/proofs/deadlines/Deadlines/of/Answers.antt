use mathlib.Core.Path.{◌≡◌, refl, sym, ap, ◌∙◌}
use Prim.Native.Nat.{◌≤◌}
use native.Mathlib.Omega.{arith}
use lib.ListN.{length-set}
use Rattle.laws.proofs.Test.{eqb_of, neqb_of}
use Rattle.table.specs.declared.Task.{Task}
use Rattle.demand.specs.declared.series.Series.{Series}
use Rattle.table.specs.Table.{task_at}
use Rattle.demand.specs.Ahead.{laid}
use Rattle.demand.proofs.OwnTasks.{own_none, own_more, own_other}
use Rattle.demand.proofs.deadlines.Deadlines.of.Goals as goal
use Rattle.demand.proofs.deadlines.Deadlines.of.Goals.{then-from-queue, else-from-queue}

pub loop-task-init : goal.loop-task-init
loop-task-init c = record { long = refl; own = own_none _ _ _ }

pub loop-task-preserved : goal.loop-task-preserved
loop-task-preserved c =
    let t = c.args.table.now.table.now in
    let q = c.args.queue in
    let now = c.loop-task in
    let i = now.task-index in
    let own = now.invariant.own in
    let listed = c.tasks-task-items.ensures in
    let here = listed.each i c.loop-task-test.true in
    let is_queue : c.from.result ≡ (task_at t i).queue = c.from.ensures ∙ ap (λ (k : Task). k.queue) here in
    elim c.if-from-queue.branch [
      | then-from-queue w ↦
          let same : w.of.result ≡ laid (task_at t i) = w.of.ensures.laid ∙ ap laid here in
          let small : (task_at t i).gap ≤ 65535 = omega (arith, ap (λ (s : Series). s.gap) same, w.of.ensures.small_gap) in
          let more = own_more t q now.series now.count i own (omega (arith, own.few)) (eqb_of (task_at t i).queue q (sym is_queue ∙ w.if-from-queue.true)) (listed.lawful i c.loop-task-test.true) small in
          rw (w.series-is, w.count-is, same) record { long = simp length-set now.invariant.long; own = more }
      | else-from-queue w ↦
          rw (w.series-is, w.count-is)
          record {
            long = now.invariant.long;
            own = own_other t q now.series now.count i own (neqb_of (task_at t i).queue q (λ e. w.if-from-queue.false (is_queue ∙ e)));
          }
    ]

pub invariant_of-result : goal.invariant_of-result
invariant_of-result c =
    let own = c.loop-task.invariant.own in record {
      few = omega (arith, own.few);
      gaps_in_bounds = λ i l. (omega (arith, own.lawful i l), own.small i l);
    }

pub returns : goal.returns
returns c =
    let own = c.loop-task.invariant.own in
    let all : c.loop-task.task-index ≡ c.args.table.now.table.now.tasks = omega arith in
    record { lawful = own.lawful; demands = rw all at own.demands }
