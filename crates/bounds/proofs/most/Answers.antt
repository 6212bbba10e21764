use Rattle.std.proofs.Common.{refl, subst, ◌-◌}
use Rattle.theory.specs.Grants.{is}
use Rattle.theory.specs.Bounds.{Most}
use Rattle.theory.specs.Tree.{grants}
use Rattle.table.specs.declared.Table.{Table}
use Rattle.table.specs.Table.{tree_of}
use Rattle.table.proofs.Known.{well_formed}
use Rattle.bounds.proofs.Refused.{window_known}
use Rattle.bounds.proofs.Answered.{answer_says, most_says}
use Rattle.bounds.proofs.most.Goals as goal

pub returns : goal.returns
returns c =
    let a = c.args in
    let accepted = c.in_ok-table.table in
    let says = most_says (tree_of accepted.table.now) (well_formed accepted).formed a.queue _ a.window c.bound.ensures in
    let of_table = subst (λ (t : Table). Most (grants (tree_of t)) (is a.queue) a.window (a.window - c.bound.result)) c.in_ok-table.ensures.kept says in
    answer_says _ _ _ c.in_ok-table.ensures.refusal _ refl (rw c.saturating_sub.ensures of_table)

pub invariant_of-others : goal.invariant_of-others
invariant_of-others c = record { some_queue = (window_known c.args.table c.args.queue c.args.window c.in_ok-table.ensures.refusal).0 }

pub bound-requires : goal.bound-requires
bound-requires c = (window_known c.args.table c.args.queue c.args.window c.in_ok-table.ensures.refusal).1
