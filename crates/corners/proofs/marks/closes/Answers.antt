use mathlib.Core.Path.{refl, sym, ◌∙◌}
use Prim.Native.Nat.{ℕ, ◌+◌, ◌<◌}
use native.Mathlib.Omega.{arith}
use mathlib.Core.Bool.{false}
use lib.ListN.{length-replicate}
use Rattle.corners.proofs.Closing.{no_mark, closing_none, closing_passes, closing_root, closing_child}
use Rattle.corners.proofs.marks.closes.Goals as goal
use Rattle.corners.proofs.marks.closes.Goals.{then-not-passes+then-v-gt0, then-not-passes+else-v-gt0, else-not-passes}

pub loop-v-init : goal.loop-v-init
loop-v-init c = closing_none _ _ _ _ _ _ (length-replicate 128 false) (no_mark 128)

pub loop-v-preserved : goal.loop-v-preserved
loop-v-preserved c =
    let l = c.loop-v in
    let t = c.args.tree.now in
    let small : l.v < 128 = omega (arith, t.lent.few) in
    let falls = λ (u : ℕ) (z : 0 < u) (m : u < l.v + 1). t.lent.formed.falls u z (omega arith) in
    elim c.if-not-passes.branch [
      | then-not-passes+then-v-gt0 w ↦
          rw w.out-is (closing_child _ _ _ _ _ l.v _ small falls l.invariant _ _ w.parent.ensures.value w.if-v-gt0.true (sym c.passes.ensures ∙ w.if-not-passes.true) refl)
      | then-not-passes+else-v-gt0 w ↦
          rw w.out-is (closing_root _ _ _ _ _ l.v _ small falls l.invariant _ (omega arith) (sym c.passes.ensures ∙ w.if-not-passes.true) refl)
      | else-not-passes w ↦ rw w.out-is (closing_passes _ _ _ _ _ l.v _ small falls l.invariant (sym c.passes.ensures ∙ w.if-not-passes.false))
    ]
