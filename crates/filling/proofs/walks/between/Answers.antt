-- `filling::walks::between` meets its contract: a point where a corner starts, and none elsewhere. Assumes nothing.
use Rattle.slice.proofs.Lowering.{lowers_on}
use Rattle.filling.proofs.walks.between.Goals as goal

pub returns-then-columns-a : goal.returns-then-columns-a
returns-then-columns-a c =
    lowers_on _ _ _ _ _ c.if-columns-a.true
    (rw (c.from.ensures, c.saturating_sub-length.ensures, c.saturating_sub-count.ensures) at c.lower.ensures)
