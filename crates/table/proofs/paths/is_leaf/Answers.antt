use Rattle.std.proofs.Common.{rules}
use Rattle.table.proofs.Leaves.{leaf_unnamed}
use Rattle.table.proofs.paths.is_leaf.Goals as goal

pub returns : goal.returns
returns c = leaf_unnamed c.args.parents.now c.args.v c.args.n c.contains.result (search rules) c.contains.ensures.cases
