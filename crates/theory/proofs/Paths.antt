-- Paths: the sums along them by the parent, and which location stands at a tick of a cycle. Assumes nothing.
use mathlib.Core.Path.{◌≡◌, ap, ◌∙◌}
use mathlib.Core.Bool.{not}
use mathlib.Core.Logic.{inl, inr}
use Prim.Native.Nat.{ℕ, zero, suc, ◌+◌, ◌≤◌, ◌<◌}
use native.Mathlib.Omega.{arith}
use lib.Dec.{T, eqb, eqb→eq, ltb, ltb→lt, lt→ltb}
use lib.Arith.{le→nltb}
use Rattle.laws.specs.Test.{pick}
use Rattle.laws.proofs.Test.{either, le_or_lt, and_left, and_right, and_both, eqb_of, pick_yes, pick_no, some_of}
use Rattle.laws.proofs.Climb.{Falls, climb_root, climb_child}
use Rattle.theory.specs.Tree.{Tree, is_child, Child, is_leaf, Leaf, before, upto, start, end, Formed}
use Rattle.theory.specs.Cycles.{on_path}

-- ---- a child and its parent

pub child_parent : (t : Tree) (v u : ℕ) → Child t v u → t.parent u ≡ v
child_parent t v u c = eqb→eq (t.parent u) v (and_right (ltb 0 u) (eqb (t.parent u) v) c.1)

pub child_below : (t : Tree) (v u : ℕ) → Child t v u → 0 < u
child_below t v u c = ltb→lt 0 u (and_left (ltb 0 u) (eqb (t.parent u) v) c.1)

pub child_of : (t : Tree) (v u : ℕ) → 0 < u → u < t.size → t.parent u ≡ v → Child t v u
child_of t v u z s e = (s, and_both (ltb 0 u) (eqb (t.parent u) v) (lt→ltb 0 u z) (eqb_of (t.parent u) v e))

-- a location that is no leaf has a child
pub some_child : (t : Tree) (v : ℕ) → T (not (is_leaf t v)) → (u : ℕ) × Child t v u
some_child t v n = let (u, l, c) = some_of (is_child t v) t.size n in (u, (l, c))

-- ---- sums along a path, of any f

module _ (t : Tree) (falls : Falls t.parent t.size) where
  pub before_root : (f : ℕ → ℕ) (v : ℕ) → v ≡ 0 → before t f v ≡ 0
  before_root f v e = climb_root t.parent t.size falls (λ u. 0) (λ u x. x + f (t.parent u)) v v e

  pub before_child : (f : ℕ → ℕ) (v : ℕ) → 0 < v → v < t.size → before t f v ≡ upto t f (t.parent v)
  before_child f v z s = climb_child t.parent t.size falls (λ u. 0) (λ u x. x + f (t.parent u)) v z s

  -- sums add, term by term
  pub before_add : (f g h : ℕ → ℕ) → ((v : ℕ) → v < t.size → f v + g v ≡ h v) → (k v : ℕ) → v < k → v < t.size → before t f v + before t g v ≡ before t h v
  before_add f g h e zero v l s = absurd (omega arith)
  before_add f g h e (suc k) v l s = elim (le_or_lt v 0) [
    | inl z ↦ omega (arith, before_root f v (omega arith), before_root g v (omega arith), before_root h v (omega arith))
    | inr z ↦
        let u = falls v z s in
        omega (
          arith,
          before_child f v z s,
          before_child g v z s,
          before_child h v z s,
          before_add f g h e k (t.parent v) (omega arith) (omega arith),
          e (t.parent v) (omega arith),
        )
  ]

  -- what begins later than tick 0 is not the root
  pub not_root : (v : ℕ) → 0 < start t v → 0 < v
  not_root v h = elim (le_or_lt v 0) [ inl z ↦ absurd (omega (arith, before_root t.ticks v (omega arith))) | inr z ↦ z ]

  -- ---- the location at tick r of v's path

  pub path_up : (v r : ℕ) → v < t.size → r < start t v → on_path t v r ≡ on_path t (t.parent v) r
  path_up v r s h =
      climb_child t.parent t.size falls (λ u. u) (λ u x. pick (ltb r (start t u)) x u) v (not_root v (omega arith)) s
      ∙ pick_yes (ltb r (start t v)) _ _ (lt→ltb r (start t v) h)

  pub path_here : (v r : ℕ) → v < t.size → start t v ≤ r → on_path t v r ≡ v
  path_here v r s h = elim (le_or_lt v 0) [
    | inl z ↦ climb_root t.parent t.size falls (λ u. u) (λ u x. pick (ltb r (start t u)) x u) v v (omega arith)
    | inr z ↦
        climb_child t.parent t.size falls (λ u. u) (λ u x. pick (ltb r (start t u)) x u) v z s
        ∙ pick_no (ltb r (start t v)) _ _ (le→nltb r (start t v) h)
  ]

-- ---- in a formed tree

module _ (t : Tree) (formed : Formed t) where
  -- a child begins where its parent ends
  pub child_start : (v u : ℕ) → Child t v u → start t u ≡ end t v
  child_start v u c = before_child t formed.falls t.ticks u (child_below t v u c) c.0 ∙ ap (end t) (child_parent t v u c)

  -- below every location there is a leaf
  pub leaf_under : (A : ℕ → Type 0) → ((v u : ℕ) → Child t v u → A v → A u) → (k v : ℕ) → t.size ≤ v + k → v < t.size → A v → (l : ℕ) × Leaf t l × A l
  leaf_under A on zero v h s a = absurd (omega arith)
  leaf_under A on (suc k) v h s a = elim (either (is_leaf t v)) [
    | inl y ↦ (v, (s, y), a)
    | inr y ↦
        let (u, c) = some_child t v y in
        leaf_under A on k u (omega (arith, formed.falls u (child_below t v u c) c.0, child_parent t v u c)) c.0 (on v u c a)
  ]

  pub some_leaf : (l : ℕ) × Leaf t l
  some_leaf = let (l, w, a) = leaf_under (λ v. ℕ) (λ v u c a. a) t.size 0 (omega arith) formed.root 0 in (l, w)

  -- a cycle is long enough for every location
  pub ends_in_cycle : (v : ℕ) → v < t.size → end t v ≤ t.period
  ends_in_cycle v s =
      let (l, w, a) = leaf_under (λ u. end t v ≤ end t u) (λ x u c a. omega (arith, child_start x u c)) t.size v (omega arith) s (omega arith) in
      omega (arith, formed.whole l w)

  pub starts_in_cycle : (v : ℕ) → v < t.size → start t v < t.period
  starts_in_cycle v s = omega (arith, ends_in_cycle v s, formed.spends v s)

  pub some_tick : 0 < t.period
  some_tick = omega (arith, starts_in_cycle 0 formed.root)

  -- the location at tick r of v's path has tick r
  pub on_path_law : (k v r : ℕ) → v < k → v < t.size → r < end t v → (on_path t v r < t.size) × (start t (on_path t v r) ≤ r) × (r < end t (on_path t v r))
  on_path_law zero v r f s h = absurd (omega arith)
  on_path_law (suc k) v r f s h = elim (le_or_lt (start t v) r) [
    | inl y ↦ rw (path_here t formed.falls v r s y) (s, y, h)
    | inr y ↦
        let z = not_root t formed.falls v (omega arith) in
        let g = formed.falls v z s in
        rw (path_up t formed.falls v r s y)
        (on_path_law k (t.parent v) r (omega arith) (omega arith) (omega (arith, before_child t formed.falls t.ticks v z s)))
  ]

  -- at the first tick of a cycle, the root
  pub path_first : (v : ℕ) → v < t.size → on_path t v 0 ≡ 0
  path_first v s =
      let o = on_path_law (suc v) v 0 (omega arith) s (omega (arith, formed.spends v s)) in
      elim (le_or_lt (on_path t v 0) 0) [
        | inl y ↦ omega arith
        | inr y ↦
            let b = formed.falls (on_path t v 0) y o.0 in
            absurd (omega (
              arith,
              o.1,
              before_child t formed.falls t.ticks (on_path t v 0) y o.0,
              formed.spends (t.parent (on_path t v 0)) (omega (arith, o.0)),
            ))
      ]
