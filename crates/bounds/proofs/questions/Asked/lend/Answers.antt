use Rattle.table.proofs.Known.{well_formed}
use Rattle.bounds.proofs.Agreeing.{lent_is, lent_table}
use Rattle.bounds.proofs.questions.Asked.lend.Goals as goal

pub invariant_of-result : goal.invariant_of-result
invariant_of-result c =
    let t = c.args.self.now.table in
    record { lent = lent_table t.table.now c.args.self.now.queue c.args.self.now.some_queue _ _ _ _ c.parents.ensures c.ticks.ensures c.flags.ensures c.from.ensures (well_formed t) }

pub returns-clause-tree : goal.returns-clause-tree
returns-clause-tree c = lent_is c.args.self.now.table.table.now c.args.self.now.queue c.args.self.now.some_queue _ _ _ _ c.parents.ensures c.ticks.ensures c.flags.ensures c.from.ensures
