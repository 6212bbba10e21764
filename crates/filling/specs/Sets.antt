-- The sets of points that lower a lent slice, over a lent tree and its columns.
use Rattle.std.specs.Prelude.{Bool, List, ◌⊎◌, ℕ, ◌+◌, ◌-◌, T}
use Rattle.theory.specs.Points.{Above}
use Rattle.table.specs.Columns.{entry}
use Rattle.slice.specs.Changes.{Lowers, Single, Until, Longer}
use Rattle.corners.specs.declared.lent.LentTree.{LentTree}
use Rattle.corners.specs.declared.columns.Columns.{Columns}
use Rattle.corners.specs.Lent.{marked}
use Rattle.corners.specs.Trees.{tree_from}

-- One point, where v is marked.
abbrev pub Marked : List Bool → ℕ → ℕ → ℕ → ℕ → ℕ → Type 0
Marked marks v n m x y = T (marked marks v) × Single n m x y

-- From a's first tick to v's end, where a is marked.
abbrev pub Between : Columns → ℕ → ℕ → ℕ → ℕ → Type 0
Between k a v x y = Marked k.opens a (entry k.ends v - entry k.begins a) (entry k.counts v - entry k.counts a) x y

-- So for every location that is a or above a.
abbrev pub Upward : LentTree → Columns → ℕ → ℕ → ℕ → ℕ → Type 0
Upward t k a v x y = (b : ℕ) × Above (tree_from t) b a × Between k b v x y

-- So for every location that is v or above v, where v is marked.
abbrev pub Inner : LentTree → Columns → ℕ → ℕ → ℕ → Type 0
Inner t k v x y = T (marked k.closes v) × Upward t k v v x y

-- From `ahead` ticks before a cycle's end to v's end, where v is marked.
abbrev pub Onward : Columns → ℕ → ℕ → ℕ → ℕ → ℕ → Type 0
Onward k ahead count v x y = Marked k.closes v (ahead + entry k.ends v) (count + entry k.counts v) x y

-- From a's first tick to the cycle's end, and across it to the end of a marked location, where a is marked.
abbrev pub Across : LentTree → Columns → ℕ → ℕ → ℕ → Type 0
Across t k a x y =
    T (marked k.opens a)
    × (Single (t.period - entry k.begins a) (entry k.rests a) x y
    ⊎ Until (Onward k (t.period - entry k.begins a) (entry k.rests a)) t.locations x y)

-- All of them: across, then with a whole cycle more, then within a cycle.
pub record Corners (t : LentTree) (k : Columns) (last : ℕ) (before after : List ℕ) : Type 0 where
  pub crossed : List ℕ
  pub stretched : List ℕ
  pub crosses : Lowers last (Until (Across t k) t.locations) before crossed
  pub stretches : Lowers last (Until (Longer t.period (entry k.rests 0) crossed) (last + 1)) crossed stretched
  pub stays : Lowers last (Until (Inner t k) t.locations) stretched after
