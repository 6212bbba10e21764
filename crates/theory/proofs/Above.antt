-- Ancestors: the path to a location above v is the beginning of the path to v, so counts along v's path up to a's first
-- tick, or to its last, are the sums by the parent. Assumes nothing.
use mathlib.Core.Path.{◌≡◌, refl, sym, ap, ap₂, ◌∙◌, subst}
use mathlib.Core.Bool.{Bool}
use mathlib.Core.Logic.{◌⊎◌, inl, inr}
use Prim.Native.Nat.{ℕ, zero, suc, ◌+◌, ◌-◌, ◌≤◌, ◌<◌}
use native.Mathlib.Nat.{zero-add, le_refl}
use native.Mathlib.Omega.{arith}
use lib.Dec.{T, eqb, eqb→eq}
use Rattle.laws.specs.Sum.{sum}
use Rattle.laws.proofs.Test.{le_or_lt, and_left, and_right, and_both, eqb_of}
use Rattle.laws.proofs.Climb.{Falls}
use Rattle.theory.specs.Grants.{Stream, count}
use Rattle.theory.specs.Tree.{Tree, Child, is_leaf, Leaf, before, upto, start, end, Formed, grant, own}
use Rattle.theory.specs.Cycles.{on_path, spot}
use Rattle.theory.specs.Points.{Above, self, below, leaf_below}
use Rattle.theory.proofs.Grants.{count_split, count_same}
use Rattle.theory.proofs.Paths.{before_root, before_child, child_parent, child_below, not_root, path_up, path_here, leaf_under, ends_in_cycle}

-- ---- up and down

pub above_parent : {t : Tree} {a v : ℕ} → 0 < a → Above t a v → Above t (t.parent a) v
above_parent {t} {a} z self = below a z self
above_parent z (below v y h) = below v y (above_parent z h)

pub above_child : (t : Tree) (v u : ℕ) {l : ℕ} → Child t v u → Above t u l → Above t v l
above_child t v u {l} c h = subst (λ x. Above t x l) (child_parent t v u c) (above_parent (child_below t v u c) h)

pub above_trans : {t : Tree} {a v u : ℕ} → Above t a v → Above t v u → Above t a u
above_trans h self = h
above_trans h (below u z g) = below u z (above_trans h g)

-- the next on the path to v
pub above_step : {t : Tree} {a : ℕ} (v : ℕ) → Above t a v → (a ≡ v) ⊎ ((b : ℕ) × Above t b v × (0 < b) × (t.parent b ≡ a))
above_step v self = inl refl
above_step {t} {a} _ (below v z h) = go (above_step (t.parent v) h)
  where
    go : (a ≡ t.parent v) ⊎ ((b : ℕ) × Above t b (t.parent v) × (0 < b) × (t.parent b ≡ a)) → (a ≡ v) ⊎ ((b : ℕ) × Above t b v × (0 < b) × (t.parent b ≡ a))
    go (inl e) = inr (v, self, z, sym e)
    go (inr (b, i, y, e)) = inr (b, below v z i, y, e)

-- what v's path grants at each tick of a cycle
abbrev pub path : Tree → ℕ → Stream
path t v r = grant t (spot t v r)

module _ (t : Tree) (falls : Falls t.parent t.size) where
  pub above_inside : {a : ℕ} (v : ℕ) → Above t a v → v < t.size → a < t.size
  above_inside v self s = s
  above_inside _ (below v z h) s = above_inside (t.parent v) h (omega (arith, falls v z s))

  pub root_above : (k v : ℕ) → v < k → v < t.size → Above t 0 v
  root_above zero v h s = absurd (omega arith)
  root_above (suc k) zero h s = self
  root_above (suc k) (suc v) h s = let g = falls (suc v) (omega arith) s in below (suc v) (omega arith) (root_above k (t.parent (suc v)) (omega arith) (omega arith))

  -- sums along the path do not fall
  pub above_upto : (f : ℕ → ℕ) {a : ℕ} (v : ℕ) → Above t a v → v < t.size → (upto t f a ≤ upto t f v) × (before t f a ≤ before t f v)
  above_upto f v self s = (le_refl _, le_refl _)
  above_upto f _ (below v z h) s =
      let i = above_upto f (t.parent v) h (omega (arith, falls v z s)) in
      let e = before_child t falls f v z s in
      (omega arith, omega arith)

  -- the path to a is the beginning of the path to v
  pub above_path : {a : ℕ} (v r : ℕ) → Above t a v → v < t.size → r < end t a → on_path t v r ≡ on_path t a r
  above_path v r self s l = refl
  above_path _ r (below v z h) s l =
      let g = falls v z s in
      let i = above_upto t.ticks (t.parent v) h (omega arith) in
      path_up t falls v r s (omega (arith, before_child t falls t.ticks v z s)) ∙ above_path (t.parent v) r h (omega arith) l

  pub above_at : {a : ℕ} (v r : ℕ) → Above t a v → v < t.size → start t a ≤ r → r < end t a → on_path t v r ≡ a
  above_at {a} v r h s l m = above_path v r h s m ∙ path_here t falls a r (above_inside v h s) l

  pub above_of : (k v r : ℕ) → v < k → v < t.size → r < end t v → Above t (on_path t v r) v
  above_of zero v r f s h = absurd (omega arith)
  above_of (suc k) v r f s h = elim (le_or_lt (start t v) r) [
    | inl y ↦ rw (path_here t falls v r s y) self
    | inr y ↦
        let z = not_root t falls v (omega arith) in
        let g = falls v z s in
        below v z (rw (path_up t falls v r s y) (above_of k (t.parent v) r (omega arith) (omega arith) (omega (arith, before_child t falls t.ticks v z s))))
  ]

  -- ---- counts along a path

  module _ (p : ℕ → Bool) where
    own_count : {a : ℕ} (v : ℕ) → Above t a v → v < t.size → count p (path t v) (start t a) (t.ticks a) ≡ own t p a
    own_count {a} v h s =
        count_same p (path t v) (λ k. grant t (record { location = a; done = k })) (start t a) 0 (t.ticks a)
        (λ i l.
        let e = above_at v (start t a + i) h s (omega arith) (omega arith) in
        let f : start t a + i - start t (on_path t v (start t a + i)) ≡ 0 + i = omega (arith, ap (start t) e) in
        ap₂ (λ x k. grant t (record { location = x; done = k })) e f)

    same_count : {a : ℕ} (v x : ℕ) → Above t a v → v < t.size → x ≤ end t a → count p (path t v) 0 x ≡ count p (path t a) 0 x
    same_count {a} v x h s l =
        count_same p (path t v) (path t a) 0 0 x
        (λ i m. ap (λ y. grant t (record { location = y; done = 0 + i - start t y })) (above_path v (0 + i) h s (omega arith)))

    split : (v a b : ℕ) → count p (path t v) 0 (a + b) ≡ count p (path t v) 0 a + count p (path t v) a b
    split v a b = rw (zero-add a) at (count_split p (path t v) 0 a b)

    before_self : (k v : ℕ) → v < k → v < t.size → count p (path t v) 0 (start t v) ≡ before t (own t p) v
    unfolding sum
    before_self zero v h s = absurd (omega arith)
    before_self (suc k) v h s = elim (le_or_lt v 0) [
      | inl z ↦ ap (count p (path t v) 0) (before_root t falls t.ticks v (omega arith)) ∙ sym (before_root t falls (own t p) v (omega arith))
      | inr z ↦
          let g = falls v z s in
          let e = before_child t falls t.ticks v z s in
          let u = t.parent v in
          same_count v (start t v) (below v z self) s (omega arith)
          ∙ (ap (count p (path t u) 0) e
          ∙ (split u (start t u) (t.ticks u)
          ∙ (ap₂ ◌+◌ (before_self k u (omega arith) (omega arith)) (own_count u self (omega arith)) ∙ sym (before_child t falls (own t p) v z s))))
    ]

    -- up to a's first tick, and to its end
    pub before_count : {a : ℕ} (v : ℕ) → Above t a v → v < t.size → count p (path t v) 0 (start t a) ≡ before t (own t p) a
    before_count {a} v h s = same_count v (start t a) h s (omega arith) ∙ before_self (suc a) a (le_refl (suc a)) (above_inside v h s)

    pub upto_count : {a : ℕ} (v : ℕ) → Above t a v → v < t.size → count p (path t v) 0 (end t a) ≡ upto t (own t p) a
    upto_count {a} v h s = split v (start t a) (t.ticks a) ∙ ap₂ ◌+◌ (before_count v h s) (own_count v h s)

    -- from a's first tick on
    pub from_count : {a : ℕ} (v n x : ℕ) → Above t a v → v < t.size → start t a + n ≡ x → before t (own t p) a + count p (path t v) (start t a) n ≡ count p (path t v) 0 x
    from_count {a} v n x h s e = omega (arith, before_count v h s, rw e at (split v (start t a) n))

-- ---- the leaves below a location

module _ (t : Tree) (formed : Formed t) where
  pub leaf_above : (v : ℕ) → v < t.size → (l : ℕ) × Leaf t l × Above t v l
  leaf_above v s = leaf_under t formed (Above t v) (λ x u c h. below u (child_below t x u c) (subst (Above t v) (sym (child_parent t x u c)) h)) t.size v (omega arith) s self

  pub leaf_below_of : (a l : ℕ) → Above t a l → Leaf t l → T (leaf_below t a l)
  leaf_below_of a l h w =
      let s = above_inside t formed.falls l h w.0 in
      and_both (is_leaf t l) (eqb (on_path t l (start t a)) a) w.1
      (eqb_of (on_path t l (start t a)) a (above_at t formed.falls l (start t a) h w.0 (le_refl _) (omega (arith, formed.spends a s))))

  pub leaf_below_is : (a l : ℕ) → a < t.size → l < t.size → T (leaf_below t a l) → Leaf t l × Above t a l
  leaf_below_is a l s sl b =
      let w = and_left (is_leaf t l) (eqb (on_path t l (start t a)) a) b in
      let e = eqb→eq (on_path t l (start t a)) a (and_right (is_leaf t l) (eqb (on_path t l (start t a)) a) b) in
      let f = ends_in_cycle t formed a s in
      ((sl, w), subst (λ y. Above t y l) e (above_of t formed.falls (suc l) l (start t a) (le_refl _) sl (omega (arith, formed.whole l (sl, w), formed.spends a s))))
