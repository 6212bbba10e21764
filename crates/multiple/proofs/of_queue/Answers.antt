use Prim.Native.Nat.{ℕ, suc, ◌+◌, ◌-◌}
use mathlib.Core.Path.{◌≡◌, sym, ap, ap₂, ◌∙◌}
use native.Mathlib.Numerals.{add-one}
use native.Mathlib.Omega.{arith}
use Rattle.std.proofs.Common.{Some}
use Rattle.theory.specs.Search.{lcm, lcm_to}
use Rattle.table.specs.declared.Task.{Task}
use Rattle.table.specs.declared.Table.{Table}
use Rattle.table.specs.Table.{task_at, tasks_of}
use Rattle.table.proofs.Known.{well_formed}
use Rattle.multiple.proofs.Multiples.{multiple_none, multiple_own, multiple_other, multiple_grows, within_is, past_is, within_said, past_said, stepped_first, stepped_below}
use Rattle.multiple.proofs.of_queue.Goals as goal
use Rattle.multiple.proofs.of_queue.Goals.{then-from-queue+in_ok-multiple, else-from-queue}

-- what one more of the queue's gaps makes of the multiple
own : (t : Table) (q i multiple gap : ℕ) → multiple ≡ lcm_to (tasks_of t) q t.period i → gap ≡ (task_at t i).gap → (task_at t i).queue ≡ q
    → lcm multiple gap ≡ lcm_to (tasks_of t) q t.period (suc i)
own t q i multiple gap m g k = ap₂ lcm m g ∙ sym (multiple_own (tasks_of t) q t.period i k)

pub loop-task-init : goal.loop-task-init
loop-task-init c =
    let t = c.args.table.now in
    let period = (well_formed t).period in record {
      multiple = c.from-multiple.ensures ∙ sym (multiple_none (tasks_of t.table.now) c.args.queue t.table.now.period);
      in_bounds = (omega (arith, period), omega (arith, period));
    }

pub returns-in_err-multiple : goal.returns-in_err-multiple
returns-in_err-multiple c =
    let t = c.args.table.now in
    let q = c.args.queue in
    let i = c.loop-task.task-index in
    let listed = c.tasks-task-items.ensures in
    let here = listed.each i c.loop-task-test.true in
    let is_queue = sym (c.from.ensures ∙ ap (λ (k : Task). k.queue) here) ∙ c.if-from-queue.true in
    let gap = c.from-then-from-queue.ensures ∙ ap (λ (k : Task). k.gap) here in
    let e : suc i + (t.table.now.tasks - suc i) ≡ t.table.now.tasks = omega arith in
    let grows = multiple_grows (tasks_of t.table.now) q t.table.now.period (λ j l. omega (arith, listed.lawful j (omega arith))) (suc i) (t.table.now.tasks - suc i) (omega arith) in
    c.from_residual.ensures ∙ past_is _ (omega (arith, own t.table.now q i _ _ c.loop-task.invariant.multiple gap is_queue, past_said _ c.in_err-multiple.ensures, rw e at grows))

pub loop-task-preserved : goal.loop-task-preserved
loop-task-preserved c =
    let t = c.args.table.now in
    let q = c.args.queue in
    let now = c.loop-task in
    let i = now.task-index in
    let listed = c.tasks-task-items.ensures in
    let here = listed.each i c.loop-task-test.true in
    let is_queue = c.from.ensures ∙ ap (λ (k : Task). k.queue) here in
    elim c.if-from-queue.branch [
      | then-from-queue+in_ok-multiple w ↦
          let gap = w.from-then-from-queue.ensures ∙ ap (λ (k : Task). k.gap) here in
          let lawful = listed.lawful i c.loop-task-test.true in
          let (is, within) = within_said (lcm now.multiple w.from-then-from-queue.result) w.in_ok-multiple.multiple w.in_ok-multiple.ensures in
          let m = stepped_below now.multiple w.from-then-from-queue.result now.multiple (stepped_first now.multiple w.from-then-from-queue.result) (omega (arith, lawful, gap)) in
          rw w.multiple-is
          record {
            multiple = rw add-one (is ∙ own t.table.now q i _ _ now.invariant.multiple gap (sym is_queue ∙ w.if-from-queue.true));
            in_bounds = (omega (arith, is, m, now.invariant.in_bounds), omega (arith, is, within));
          }
      | else-from-queue w ↦
          rw w.multiple-is
          record {
            multiple = rw add-one (now.invariant.multiple ∙ sym (multiple_other (tasks_of t.table.now) q t.table.now.period i (λ f. w.if-from-queue.false (is_queue ∙ f))));
            in_bounds = now.invariant.in_bounds;
          }
    ]

pub returns : goal.returns
returns c =
    let t = c.args.table.now in
    let now = c.loop-task in
    let all : now.task-index ≡ t.table.now.tasks = omega arith in
    let is = now.invariant.multiple ∙ ap (lcm_to (tasks_of t.table.now) c.args.queue t.table.now.period) all in
    ap Some is ∙ within_is _ (omega (arith, is, now.invariant.in_bounds))
