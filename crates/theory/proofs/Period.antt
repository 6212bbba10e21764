-- The least and the most of a cycle, over whole paths; and from a window of one period on, a period more adds them.
-- Assumes nothing.
use mathlib.Core.Path.{◌≡◌, sym, ap, ◌∙◌}
use mathlib.Core.Bool.{Bool}
use Prim.Native.Nat.{ℕ, suc, ◌+◌, ◌-◌, ◌≤◌}
use native.Mathlib.Nat.{le_refl}
use native.Mathlib.Omega.{arith}
use Rattle.theory.specs.Grants.{count, others}
use Rattle.theory.specs.Bounds.{Least, Most}
use Rattle.theory.specs.Tree.{Tree, Leaf, upto, Formed, grant, grants, own, CycleLeast, CycleMost}
use Rattle.theory.specs.Cycles.{system, cycle_least, cycle_most}
use Rattle.theory.specs.Points.{self}
use Rattle.theory.proofs.Grants.{count_others}
use Rattle.theory.proofs.Bounds.{least_unique, least_of_most, most_le}
use Rattle.theory.proofs.Paths.{before_add}
use Rattle.theory.proofs.Cycles.{low_le, low_at, least_period}
use Rattle.theory.proofs.Runs.{sound, tree_least}
use Rattle.theory.proofs.Above.{path, upto_count}

pub cycle_least_unique : (t : Tree) (p : ℕ → Bool) (m n : ℕ) → CycleLeast t p m → CycleLeast t p n → m ≡ n
cycle_least_unique t p m n a b = omega (arith, a.lower b.leaf b.leaf_is_leaf, b.lower a.leaf a.leaf_is_leaf, a.met, b.met)

pub cycle_most_unique : (t : Tree) (p : ℕ → Bool) (m n : ℕ) → CycleMost t p m → CycleMost t p n → m ≡ n
cycle_most_unique t p m n a b = omega (arith, a.upper b.leaf b.leaf_is_leaf, b.upper a.leaf a.leaf_is_leaf, a.met, b.met)

module _ (t : Tree) (formed : Formed t) (p : ℕ → Bool) where
  -- a whole path's count, by its leaf
  pub whole_count : (v : ℕ) → Leaf t v → count p (path t v) 0 t.period ≡ upto t (own t p) v
  whole_count v w = ap (count p (path t v) 0) (sym (formed.whole v w)) ∙ upto_count t formed.falls p v self w.0

  pub cycle_least_law : CycleLeast t p (cycle_least (system t) p)
  cycle_least_law =
      let (v, w, e) = low_at (system t) (sound t formed) p 0 t.period in
      record {
        leaf = v;
        leaf_is_leaf = w;
        met = sym (whole_count v w) ∙ e;
        lower = λ u x. omega (arith, whole_count u x, low_le (system t) (sound t formed) p u 0 t.period x);
      }

  -- what passes on a whole path and the others are the period
  others_left : (v : ℕ) → Leaf t v → upto t (own t p) v + upto t (own t (others p)) v ≡ t.period
  others_left v w =
      let each : (u : ℕ) → own t p u + own t (others p) u ≡ t.ticks u = λ u. count_others p (λ k. grant t (record { location = u; done = k })) 0 (t.ticks u) in
      omega (arith, before_add t formed.falls (own t p) (own t (others p)) t.ticks (λ u s. each u) (suc v) v (le_refl _) w.0, each v, formed.whole v w)

  pub cycle_most_of_least : (m : ℕ) → CycleLeast t (others p) m → CycleMost t p (t.period - m)
  cycle_most_of_least m l = record {
    leaf = l.leaf;
    leaf_is_leaf = l.leaf_is_leaf;
    met = omega (arith, l.met, others_left l.leaf l.leaf_is_leaf);
    upper = λ v w. omega (arith, l.lower v w, others_left v w);
  }

  pub cycle_least_of_most : (m : ℕ) → CycleMost t p m → CycleLeast t (others p) (t.period - m) × (m ≤ t.period)
  cycle_least_of_most m l = (
    record {
      leaf = l.leaf;
      leaf_is_leaf = l.leaf_is_leaf;
      met = omega (arith, l.met, others_left l.leaf l.leaf_is_leaf);
      lower = λ v w. omega (arith, l.upper v w, others_left v w);
    },
    omega (arith, l.met, others_left l.leaf l.leaf_is_leaf),
  )

  -- least(t + P) = least(t) + cycle least, from t = P on
  pub least_law : (w a b c : ℕ) → t.period ≤ w → Least (grants t) p w a → Least (grants t) p (w + t.period) b → CycleLeast t p c → b ≡ a + c
  least_law w a b c h l m d =
      omega (
        arith,
        least_unique (grants t) l (tree_least t formed p w),
        least_unique (grants t) m (tree_least t formed p (w + t.period)),
        cycle_least_unique t p c (cycle_least (system t) p) d cycle_least_law,
        least_period (system t) (sound t formed) p w h,
      )

module _ (t : Tree) (formed : Formed t) (p : ℕ → Bool) where
  pub cycle_most_law : CycleMost t p (cycle_most (system t) p)
  cycle_most_law = cycle_most_of_least t formed p (cycle_least (system t) (others p)) (cycle_least_law t formed (others p))

  -- most(t + P) = most(t) + cycle most, from t = P on
  pub most_law : (w a b c : ℕ) → t.period ≤ w → Most (grants t) p w a → Most (grants t) p (w + t.period) b → CycleMost t p c → b ≡ a + c
  most_law w a b c h l m d =
      let (x, k) = cycle_least_of_most t formed p c d in
      omega (
        arith,
        least_law t formed (others p) w (w - a) (w + t.period - b) (t.period - c) h (least_of_most (grants t) l) (least_of_most (grants t) m) x,
        most_le (grants t) l,
        most_le (grants t) m,
      )
