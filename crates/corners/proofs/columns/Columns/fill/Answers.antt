-- `corners::columns::Columns::fill` meets its contract: every column is the tree's. Assumes nothing.
use native.Mathlib.Omega.{arith}
use Rattle.corners.proofs.Making.{begins_below, ends_are, counts_are}
use Rattle.corners.proofs.columns.Columns.fill.Goals as goal

pub ends-requires : goal.ends-requires
ends-requires c = let t = c.args.tree.now in λ v l. omega (arith, begins_below t _ c.sums.ensures v l, t.lent.short)

pub returns : goal.returns
returns c = record {
  opens = c.opens.ensures;
  closes = c.closes.ensures;
  begins = c.sums.ensures;
  ends = ends_are c.args.tree.now _ _ c.sums.ensures c.ends.ensures;
  counts = counts_are c.args.tree.now _ _ c.owns.ensures c.sums-2.ensures;
  rests = c.rests.ensures;
}
