-- `filling::cycle_least` meets its contract: the root's rest is the least of a whole cycle. Assumes nothing.
use mathlib.Core.Path.{◌∙◌}
use Rattle.theory.proofs.Rest.{rest_root}
use Rattle.corners.specs.Trees.{tree_from, asked_by}
use Rattle.filling.proofs.cycle_least.Goals as goal

pub returns : goal.returns
returns c =
    let t = c.args.tree.now in
    c.rests.ensures 0 t.lent.formed.root ∙ rest_root (tree_from t) t.lent.formed (asked_by t)
