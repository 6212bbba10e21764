-- `Guards::has_overlap` meets its contract, by the law on widths. Assumes nothing.
use mathlib.Core.Path.{ap, ◌∙◌}
use lib.Dec.{ltb}
use Rattle.guards.specs.Lent.{guards_of}
use Rattle.guards.proofs.Held.{overlap_by_widths}
use Rattle.guards.proofs.Guards.has_overlap.Goals as goal

pub returns : goal.returns
returns c =
    let a = c.args in
    ap (ltb 65536) c.widths.ensures ∙ overlap_by_widths (guards_of a.self.now) a.v c.args.self.now.some_value c.requires.no_gap
