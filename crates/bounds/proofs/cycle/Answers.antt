use Rattle.std.proofs.Common.{sym, subst, ap, ◌-◌}
use Rattle.theory.specs.Grants.{is}
use Rattle.theory.specs.Tree.{CycleLeast, CycleMost}
use Rattle.table.specs.declared.Refusal.{Refusal}
use Rattle.table.specs.declared.Table.{Table}
use Rattle.table.specs.Table.{tree_of}
use Rattle.table.proofs.Known.{well_formed}
use Rattle.bounds.proofs.Refused.{queue_known}
use Rattle.bounds.proofs.Answered.{cycle_least_says, cycle_most_says}
use Rattle.bounds.proofs.cycle.Goals as goal

pub returns : goal.returns
returns c =
    let a = c.args in
    let e = c.in_ok-table.ensures.refusal in
    let kept = c.in_ok-table.ensures.kept in
    let accepted = c.in_ok-table.table in
    let formed = (well_formed accepted).formed in
    let t = tree_of accepted.table.now in
    let most = cycle_most_says t formed a.queue _ c.cycle-2.ensures.value in
    record {
      refusal = e;
      least = λ z. subst (λ (u : Table). CycleLeast (tree_of u) (is a.queue) c.cycle.result) kept (cycle_least_says t formed a.queue _ c.cycle.ensures.value);
      most = λ z. rw (c.saturating_sub.ensures, c.from.ensures) (subst (λ (u : Table). CycleMost (tree_of u) (is a.queue) (c.in_ok-table.table.table.now.period - c.cycle-2.result)) kept most);
      silent = λ z. absurd (z (sym (ap (λ (x : Refusal). x.number) e)));
    }

pub invariant_of-own : goal.invariant_of-own
invariant_of-own c = record { some_queue = (queue_known c.args.table c.args.queue c.in_ok-table.ensures.refusal).0 }

pub invariant_of-others : goal.invariant_of-others
invariant_of-others c = record { some_queue = (queue_known c.args.table c.args.queue c.in_ok-table.ensures.refusal).0 }
