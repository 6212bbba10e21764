-- `slice::passes::settle` meets its contract: one pass after the other. Assumes nothing.
use Rattle.slice.proofs.Settling.{settled}
use Rattle.slice.proofs.passes.settle.Goals as goal

pub returns : goal.returns
returns c = settled _ _ _ _ c.down.ensures (rw c.down.ensures.long at c.up.ensures)
