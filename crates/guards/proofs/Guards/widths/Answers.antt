use mathlib.Core.Path.{sym, ◌∙◌}
use native.Mathlib.Omega.{arith}
use Rattle.guards.specs.Lent.{guards_of}
use Rattle.guards.proofs.Held.{widths_root, widths_child, widths_other}
use Rattle.guards.proofs.Guards.widths.Goals as goal
use Rattle.guards.proofs.Guards.widths.Goals.{then-self-u, else-self-u}

pub loop-u-init : goal.loop-u-init
loop-u-init c =
    let a = c.args in
    (omega arith, omega arith, sym (widths_root (guards_of a.self.now) a.v), omega arith)

pub loop-u-preserved : goal.loop-u-preserved
loop-u-preserved c =
    let a = c.args in
    let l = c.loop-u in
    let g = guards_of a.self.now in
    elim c.if-self-u.branch [
      | then-self-u w ↦ (
        omega arith,
        omega arith,
        omega (arith, w.sum-is, c.width-held.ensures, l.invariant, widths_child g a.v l.u (omega arith) w.if-self-u.true),
        omega (arith, w.sum-is, c.width-held.ensures, l.invariant),
      )
      | else-self-u w ↦ (omega arith, omega arith, w.sum-is ∙ (l.invariant.2 ∙ sym (widths_other g a.v l.u w.if-self-u.false)), omega (arith, w.sum-is))
    ]
