use mathlib.Core.Path.{◌≡◌, refl}
use Prim.Native.Nat.{suc, ◌-◌}
use native.Mathlib.Omega.{arith}
use lib.ListN.{get_or-replicate}
use Rattle.corners.proofs.Resting.{resting_none, resting_small, resting_at, resting_root, resting_child}
use Rattle.corners.proofs.rest.rests.Goals as goal

pub loop-v-init : goal.loop-v-init
loop-v-init c =
    let t = c.args.tree.now in
    resting_none t _ refl (λ u l. get_or-replicate 128 u t.period 0 (omega (arith, l, t.lent.few)))

pub joined-least-requires : goal.joined-least-requires
joined-least-requires c =
    let l = c.loop-v in
    let t = c.args.tree.now in
    omega (arith, resting_small t l.v (l.v - 1) l.out l.invariant (omega arith), t.lent.short)

pub loop-v-preserved-then-v-gt0 : goal.loop-v-preserved-then-v-gt0
loop-v-preserved-then-v-gt0 c =
    let l = c.loop-v in
    let t = c.args.tree.now in
    let e : l.v ≡ suc (l.v - 1) = omega arith in
    let x = resting_at t (l.v - 1) l.v l.out e l.invariant _ (rw c.own.ensures at c.joined-least.ensures) in
    resting_child t (l.v - 1) l.v l.out e l.invariant _ _ _ x (omega arith) c.parent-parent.ensures.value c.min.ensures

pub loop-v-preserved : goal.loop-v-preserved
loop-v-preserved c =
    let l = c.loop-v in
    let t = c.args.tree.now in
    let e : l.v ≡ suc (l.v - 1) = omega arith in
    let x = resting_at t (l.v - 1) l.v l.out e l.invariant _ (rw c.own.ensures at c.joined-least.ensures) in
    resting_root t (l.v - 1) l.v l.out e l.invariant _ x (omega arith)
