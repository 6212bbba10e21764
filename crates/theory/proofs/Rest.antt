-- From a location to the cycle's end: a leaf's own ticks, and above it the least over the children. So one pass over the
-- locations, from the last to the root, finds it for all. Assumes nothing.
use mathlib.Core.Path.{◌≡◌, refl, sym, ap, subst}
use mathlib.Core.Bool.{Bool, not}
use mathlib.Core.Logic.{inl, inr}
use Prim.Native.Nat.{ℕ, suc, ◌+◌, ◌≤◌, ◌<◌}
use native.Mathlib.Nat.{le_refl}
use native.Mathlib.Omega.{arith}
use lib.Dec.{T, T_not}
use Rattle.laws.proofs.Test.{none_not}
use Rattle.theory.specs.Tree.{Tree, is_child, Child, is_leaf, Leaf, before, upto, Formed, own}
use Rattle.theory.specs.Cycles.{system, cycle_least}
use Rattle.theory.specs.Points.{rest}
use Rattle.theory.proofs.Paths.{before_root, before_child, child_parent, child_below, child_of}
use Rattle.theory.proofs.Above.{above_child, above_step, above_inside, above_upto, root_above}
use Rattle.theory.proofs.Period.{cycle_least_law}
use Rattle.theory.proofs.Points.{rest_le, rest_at}

module _ (t : Tree) (formed : Formed t) (p : ℕ → Bool) where
  pub rest_leaf : (v : ℕ) → Leaf t v → rest t p v ≡ own t p v
  rest_leaf v (s, y) =
      let (l, w, h, e) = rest_at t formed p v s in
      elim (above_step l h) [
        | inl q ↦ omega (arith, e, ap (upto t (own t p)) q)
        | inr (b, i, z, q) ↦
            let c = child_of t v b z (above_inside t formed.falls l i w.0) q in
            absurd (T_not (is_leaf t v) (none_not (is_child t v) t.size b c.0 c.1) y)
      ]

  -- a child's rest, after v's own ticks
  below_child : (v u : ℕ) → Child t v u → before t (own t p) u ≡ upto t (own t p) v
  below_child v u c =
      omega (arith, before_child t formed.falls (own t p) u (child_below t v u c) c.0, ap (upto t (own t p)) (child_parent t v u c))

  pub rest_child : (v u : ℕ) → Child t v u → rest t p v ≤ own t p v + rest t p u
  rest_child v u c =
      let (l, w, h, e) = rest_at t formed p u c.0 in
      omega (arith, rest_le t formed p v l (above_child t v u c h) w, below_child v u c, above_upto t formed.falls (own t p) l h w.0, e)

  pub rest_some : (v : ℕ) → v < t.size → T (not (is_leaf t v)) → (u : ℕ) × Child t v u × (rest t p v ≡ own t p v + rest t p u)
  rest_some v s n =
      let (l, w, h, e) = rest_at t formed p v s in
      elim (above_step l h) [
        | inl q ↦ absurd (T_not (is_leaf t v) n (subst (λ x. T (is_leaf t x)) (sym q) w.1))
        | inr (b, i, z, q) ↦
            let c = child_of t v b z (above_inside t formed.falls l i w.0) q in
            (b, c, omega (arith, rest_child v b c, rest_le t formed p b l i w, below_child v b c, above_upto t formed.falls (own t p) l i w.0, e))
      ]

  -- the root's is the least of a cycle
  pub rest_root : rest t p 0 ≡ cycle_least (system t) p
  rest_root =
      let (l, w, h, e) = rest_at t formed p 0 formed.root in
      let c = cycle_least_law t formed p in
      omega (
        arith,
        e,
        before_root t formed.falls (own t p) 0 refl,
        c.met,
        c.lower l w,
        rest_le t formed p 0 c.leaf (root_above t formed.falls (suc c.leaf) c.leaf (le_refl _) c.leaf_is_leaf.0) c.leaf_is_leaf,
      )
