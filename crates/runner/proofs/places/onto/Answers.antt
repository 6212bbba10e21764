-- `runner::places::onto` meets its contract: the guards are the table's, and lead where its tree leads. Assumes nothing.
use Rattle.std.proofs.Common.{◌∙◌}
use Rattle.table.proofs.Known.{well_formed}
use Rattle.runner.proofs.Leads.{some_guard, guards_lead}
use Rattle.runner.proofs.places.onto.Goals as goal

pub of-requires-clause-in_bounds : goal.of-requires-clause-in_bounds
of-requires-clause-in_bounds c = (well_formed c.args.table.now).locations

pub of-requires-clause-some_value : goal.of-requires-clause-some_value
of-requires-clause-some_value c = λ v z. some_guard c.args.table.now.table.now (well_formed c.args.table.now) v

pub returns : goal.returns
returns c = c.onto.ensures ∙ guards_lead c.args.table.now.table.now c.of.result c.of.ensures c.args.v c.args.x
