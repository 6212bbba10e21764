use Rattle.std.proofs.Common.{◌∙◌, arith}
use Rattle.table.specs.Table.{tree_of}
use Rattle.table.proofs.Known.{well_formed}
use Rattle.supply.proofs.Supply.{cycle_small}
use Rattle.bounds.specs.Flagged.{asks}
use Rattle.bounds.proofs.Agreeing.{cycle_table}
use Rattle.bounds.proofs.questions.Asked.cycle.Goals as goal

-- the tree that is lent has the table's least of a cycle
pub returns-clause-value : goal.returns-clause-value
returns-clause-value c =
    let a = c.args.self.now in
    c.cycle_least.ensures ∙ cycle_table a.table.table.now a.queue a.own c.lend.result c.lend.ensures.tree c.lend.ensures.own

pub returns-clause-upper_bound : goal.returns-clause-upper_bound
returns-clause-upper_bound c =
    let a = c.args.self.now in
    let t = a.table.table.now in
    let value = c.cycle_least.ensures ∙ cycle_table t a.queue a.own c.lend.result c.lend.ensures.tree c.lend.ensures.own in
    omega (arith, value, cycle_small (tree_of t) (well_formed a.table).formed (asks a.own a.queue))
