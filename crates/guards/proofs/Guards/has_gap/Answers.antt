use Prim.Native.Nat.{ℕ, ◌+◌, ◌≤◌, ◌<◌}
use mathlib.Core.Path.{◌≡◌, sym, subst, ◌∙◌}
use native.Mathlib.Omega.{arith}
use lib.Dec.{T}
use Rattle.theory.specs.Tree.{Tree}
use Rattle.theory.specs.Guards.{top, onto}
use Rattle.theory.proofs.Guards.{SomeValue}
use Rattle.guards.specs.Lent.{guards_of}
use Rattle.guards.specs.Children.{leads_in}
use Rattle.guards.proofs.Held.{FullBelow, onto_zero, onto_some, full_more, leads_high, gap_yes, gap_no}
use Rattle.guards.proofs.Guards.has_gap.Goals as goal

-- where a child was found
module _ (t : Tree) (v x u : ℕ) (e : u ≡ onto t v x) (found : u ≡ 0 → ⊥) where
  holder : (u < t.size) × T (leads_in t v x u)
  holder = subst (λ (w : ℕ). (w < t.size) × T (leads_in t v x w)) (sym e) (onto_some t v x (λ z. found (e ∙ z)))

  high : SomeValue t → (u < t.size) × (0 < u) × (x ≤ t.high u) × (t.high u ≤ top)
  high range =
      let h = leads_high t v x u holder.1 in
      (holder.0, h.0, h.1, (range u h.0 holder.0).1)

  full : FullBelow t v x → FullBelow t v (t.high u + 1)
  full h = full_more t v x u h holder.0 holder.1

pub returns-then-u-eq0 : goal.returns-then-u-eq0
returns-then-u-eq0 c =
    let a = c.args in
    let l = c.loop-v in
    let g = guards_of a.self.now in
    let leaf = sym c.is_leaf.ensures ∙ c.if-is_leaf.false in
    sym (gap_yes g a.v l.x leaf l.invariant.0 (onto_zero g a.v l.x (sym c.onto-u.ensures ∙ c.if-u-eq0.true)))

pub offset_bounds-self-u : goal.offset_bounds-self-u
offset_bounds-self-u c =
    let a = c.args in
    omega (arith, holder (guards_of a.self.now) a.v c.loop-v.x _ c.onto-u.ensures c.if-u-eq0.false)

pub bounds-self-u : goal.bounds-self-u
bounds-self-u c =
    let a = c.args in
    omega (arith, holder (guards_of a.self.now) a.v c.loop-v.x _ c.onto-u.ensures c.if-u-eq0.false)

pub returns-then-high : goal.returns-then-high
returns-then-high c =
    let a = c.args in
    let g = guards_of a.self.now in
    let f = full g a.v c.loop-v.x _ c.onto-u.ensures c.if-u-eq0.false c.loop-v.invariant.1 in
    sym (gap_no g a.v (λ y l. f y (omega arith)))

pub loop-v-smaller : goal.loop-v-smaller
loop-v-smaller c =
    let a = c.args in
    omega (arith, high (guards_of a.self.now) a.v c.loop-v.x _ c.onto-u.ensures c.if-u-eq0.false c.args.self.now.some_value)

pub loop-v-preserved : goal.loop-v-preserved
loop-v-preserved c =
    let a = c.args in
    let g = guards_of a.self.now in (
      omega (arith, high g a.v c.loop-v.x _ c.onto-u.ensures c.if-u-eq0.false c.args.self.now.some_value),
      full g a.v c.loop-v.x _ c.onto-u.ensures c.if-u-eq0.false c.loop-v.invariant.1,
    )
