use Rattle.bounds.proofs.Agreeing.{leasts_table}
use Rattle.bounds.proofs.questions.Asked.leasts.Goals as goal

pub returns : goal.returns
returns c = leasts_table c.args.self.now.table.table.now c.args.self.now.queue c.args.self.now.own c.lend.result c.lend.ensures.tree c.lend.ensures.own _ _ c.leasts.ensures
