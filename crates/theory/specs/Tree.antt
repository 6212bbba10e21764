-- The tree of a table: its locations, paths, runs tick by tick, and cycles.
use Rattle.std.specs.Prelude.{◌≡◌, Bool, ◌&&◌, ℕ, suc, ◌+◌, ◌≤◌, ◌<◌, T, eqb, ltb}
use Rattle.laws.specs.Test.{none}
use Rattle.laws.specs.Climb.{climb}
use Rattle.theory.specs.Grants.{Stream, count}

-- Location 0 is the root; the locations are the numbers below `size`.
pub record Tree : Type 0 where
  pub size : ℕ
  pub period : ℕ
  pub parent : ℕ → ℕ
  pub queue : ℕ → ℕ
  pub ticks : ℕ → ℕ
  pub variable : ℕ → ℕ
  pub low : ℕ → ℕ
  pub high : ℕ → ℕ

-- ---- children, leaves, paths

-- u names v as its parent. The root is nobody's child.
abbrev pub is_child : Tree → ℕ → ℕ → Bool
is_child t v u = ltb 0 u && eqb (t.parent u) v

abbrev pub Child : Tree → ℕ → ℕ → Type 0
Child t v u = (u < t.size) × T (is_child t v u)

-- A leaf is a location that no other names as its parent.
abbrev pub is_leaf : Tree → ℕ → Bool
is_leaf t v = none (is_child t v) t.size

abbrev pub Leaf : Tree → ℕ → Type 0
Leaf t v = (v < t.size) × T (is_leaf t v)

-- The sum of f over v's path without v: a location's path is its parent's path and then itself.
abbrev pub before : Tree → (ℕ → ℕ) → ℕ → ℕ
before t f v = climb t.parent (λ u. 0) (λ u x. x + f (t.parent u)) v v

-- The sum of f over v's path.
abbrev pub upto : Tree → (ℕ → ℕ) → ℕ → ℕ
upto t f v = before t f v + f v

-- The tick of a cycle at which v's first tick is, and the one after its last.
abbrev pub start : Tree → ℕ → ℕ
start t v = before t t.ticks v

abbrev pub end : Tree → ℕ → ℕ
end t v = upto t t.ticks v

-- The rules that a run needs: a root, parents below their children, ticks everywhere, and whole paths that sum to the period.
pub record Formed (t : Tree) : Type 0 where
  pub root : 0 < t.size
  pub falls : (v : ℕ) → 0 < v → v < t.size → t.parent v < v
  pub spends : (v : ℕ) → v < t.size → 1 ≤ t.ticks v
  pub whole : (v : ℕ) → Leaf t v → end t v ≡ t.period

-- ---- runs, tick by tick

-- A location, and how many of its ticks are done.
pub record Position : Type 0 where
  pub location : ℕ
  pub done : ℕ

-- What a tick grants: a tick belongs to its location's queue.
abbrev pub grant : Tree → Position → ℕ
grant t a = t.queue a.location

-- Which location may follow v's last tick: any child, since each test may find any value.
abbrev pub Follows : Tree → ℕ → ℕ → Type 0
Follows t v u = Child t v u

-- One tick on: in the same location, into one that may follow, or from a leaf to the root.
pub data Next (t : Tree) (a b : Position) : Type 0 where
  stays : suc a.done < t.ticks a.location → b.location ≡ a.location → b.done ≡ suc a.done → Next t a b
  enters : suc a.done ≡ t.ticks a.location → Follows t a.location b.location → b.done ≡ 0 → Next t a b
  returns : suc a.done ≡ t.ticks a.location → T (is_leaf t a.location) → b.location ≡ 0 → b.done ≡ 0 → Next t a b

-- A run starts at the root and goes on for ever.
pub record Run (t : Tree) (at : ℕ → Position) : Type 0 where
  pub at_root : (at 0).location ≡ 0
  pub at_first : (at 0).done ≡ 0
  pub next : (n : ℕ) → Next t (at n) (at (suc n))

-- The streams that the runs of the tree grant.
pub record grants (t : Tree) (g : Stream) : Type 0 where
  pub at : ℕ → Position
  pub run : Run t at
  pub each : (n : ℕ) → g n ≡ grant t (at n)

-- ---- cycles: whole paths from the root to a leaf

-- Of v's own ticks, those that pass.
abbrev pub own : Tree → (ℕ → Bool) → ℕ → ℕ
own t p v = count p (λ k. grant t (record { location = v; done = k })) 0 (t.ticks v)

-- Some whole path has m ticks that pass, and none has fewer.
pub record CycleLeast (t : Tree) (p : ℕ → Bool) (m : ℕ) : Type 0 where
  pub leaf : ℕ
  pub leaf_is_leaf : Leaf t leaf
  pub met : upto t (own t p) leaf ≡ m
  pub lower : (v : ℕ) → Leaf t v → m ≤ upto t (own t p) v

-- The same with the most.
pub record CycleMost (t : Tree) (p : ℕ → Bool) (m : ℕ) : Type 0 where
  pub leaf : ℕ
  pub leaf_is_leaf : Leaf t leaf
  pub met : upto t (own t p) leaf ≡ m
  pub upper : (v : ℕ) → Leaf t v → upto t (own t p) v ≤ m
