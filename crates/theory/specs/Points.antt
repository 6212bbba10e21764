-- The few windows that decide every bound: from a location's first tick to a location's last.
use Rattle.std.specs.Prelude.{◌≡◌, Bool, not, ◌&&◌, ◌||◌, ℕ, ◌+◌, ◌-◌, ◌*◌, ◌≤◌, ◌<◌, T, eqb}
use Rattle.laws.specs.Test.{none}
use Rattle.laws.specs.Minimum.{minimum}
use Rattle.theory.specs.Tree.{Tree, is_child, is_leaf, before, upto, start, end, own}
use Rattle.theory.specs.Cycles.{on_path, system, cycle_least}

-- a is v or above v.
pub data Above (t : Tree) (a : ℕ) : ℕ → Type 0 where
  self : Above t a a
  below : (v : ℕ) → 0 < v → Above t a (t.parent v) → Above t a v

-- l is a leaf, and a or below a.
abbrev pub leaf_below : Tree → ℕ → ℕ → Bool
leaf_below t a l = is_leaf t l && eqb (on_path t l (start t a)) a

-- From a's first tick to the cycle's end, the least over the leaves below a.
abbrev pub rest : Tree → (ℕ → Bool) → ℕ → ℕ
rest t p a = minimum (leaf_below t a) (λ l. upto t (own t p) l - before t (own t p) a) (t.period - start t a) t.size

-- A point has length n and count m. It is empty, or it starts with a location that passes O and ends with one that passes C:
-- within one cycle, or across its end with k whole cycles between, at most K.
pub data Point (t : Tree) (p : ℕ → Bool) (O C : ℕ → Bool) (K n m : ℕ) : Type 0 where
  empty : n ≡ 0 → m ≡ 0 → Point t p O C K n m
  within : (a v : ℕ) → T (O a) → T (C v) → v < t.size → Above t a v
      → n ≡ end t v - start t a → m ≡ upto t (own t p) v - before t (own t p) a → Point t p O C K n m
  crosses : (a k v : ℕ) → T (O a) → T (C v) → a < t.size → k ≤ K → v < t.size
      → n ≡ t.period - start t a + (k * t.period + end t v)
      → m ≡ rest t p a + (k * cycle_least (system t) p + upto t (own t p) v) → Point t p O C K n m

-- A corner starts at the root, or at a location that does not pass below one that does,
abbrev pub opens : Tree → (ℕ → Bool) → ℕ → Bool
opens t p a = eqb a 0 || (not (p (t.queue a)) && p (t.queue (t.parent a)))

-- and ends at a location that does not pass and whose children all do.
abbrev pub closes : Tree → (ℕ → Bool) → ℕ → Bool
closes t p v = not (p (t.queue v)) && none (λ u. is_child t v u && not (p (t.queue u))) t.size
