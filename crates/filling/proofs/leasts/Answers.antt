-- `filling::leasts` meets its contract: the columns are those of the lent tree, so what the corners and the passes leave are its
-- bounds. Assumes nothing.
use Prim.Native.Nat.{◌*◌, ◌<◌}
use native.Mathlib.Omega.{arith}
use Rattle.std.proofs.lemmas.List.{length-take-le}
use Rattle.theory.proofs.Paths.{some_tick}
use Rattle.slice.proofs.Between.{becomes_part}
use Rattle.corners.specs.declared.lent.LentTree.{LentTree}
use Rattle.corners.specs.Trees.{tree_from}
use Rattle.filling.proofs.Walking.{corners_long}
use Rattle.filling.proofs.Decided.{all_leasts}
use Rattle.filling.proofs.leasts.Goals as goal

tick : (t : LentTree) → 0 < t.period
tick t = some_tick (tree_from t) t.lent.formed

pub ramp-requires : goal.ramp-requires
ramp-requires c = let t = c.args.tree.now in omega (arith, t.lent.short, length-take-le (2 * t.period) c.args.out.now c.requires)

pub corners-requires : goal.corners-requires
corners-requires c = let t = c.args.tree.now in omega (arith, tick t, length-take-le (2 * t.period) c.args.out.now c.requires, c.ramp.ensures.long)

pub returns : goal.returns
returns c =
    let t = c.args.tree.now in
    let e = length-take-le (2 * t.period) c.args.out.now c.requires in
    becomes_part _ (2 * t.period) _ c.args.out.now _ (omega (arith, tick t)) c.requires
    (all_leasts t c.fill.new.self c.fill.ensures _ _ _ _ (rw e at c.ramp.ensures) (rw (c.ramp.ensures.long, e) at c.corners.ensures) (rw (corners_long c.corners.ensures, c.ramp.ensures.long, e) at c.settle.ensures))
