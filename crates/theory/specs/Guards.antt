-- Guards: which child a value leads to, and the walk by values that the runner takes.
use Rattle.std.specs.Prelude.{◌≡◌, Bool, not, ◌&&◌, ℕ, zero, suc, ◌≤◌, ◌<◌, T, leb, ltb}
use Rattle.laws.specs.Test.{pick}
use Rattle.laws.specs.Found.{Found, nobody, at, first}
use Rattle.theory.specs.Tree.{Tree, is_child, Child, is_leaf, Position}

-- The largest value of a variable.
abbrev pub top : ℕ
top = 65535

-- Value x is in u's guard: low to high, both ends included.
abbrev pub holds : Tree → ℕ → ℕ → Bool
holds t x u = leb (t.low u) x && leb x (t.high u)

-- At each location with children every value is in a child's guard and in one only; each guard holds some value.
pub record Guarded (t : Tree) : Type 0 where
  pub no_gap : (v x : ℕ) → v < t.size → T (not (is_leaf t v)) → x ≤ top → (u : ℕ) × Child t v u × T (holds t x u)
  pub no_overlap : (v u w x : ℕ) → x ≤ top → Child t v u → Child t v w → T (holds t x u) → T (holds t x w) → u ≡ w
  pub some_value : (u : ℕ) → 0 < u → u < t.size → (t.low u ≤ t.high u) × (t.high u ≤ top)

-- The location that was found, or the root.
abbrev pub or_root : Found → ℕ
or_root nobody = 0
or_root (at u) = u

-- Where v's last tick leads if v's variable is x: the child whose guard holds x; after a leaf, the root.
abbrev pub onto : Tree → ℕ → ℕ → ℕ
onto t v x = or_root (first (λ u. is_child t v u && holds t x u) 0 t.size)

-- One tick on by values: values i is what variable i is found to be.
abbrev pub move : Tree → (ℕ → ℕ) → Position → Position
move t values a = record {
  location = pick (ltb (suc a.done) (t.ticks a.location)) a.location (onto t a.location (values (t.variable a.location)));
  done = pick (ltb (suc a.done) (t.ticks a.location)) (suc a.done) 0;
}

-- The walk from the root by the values of each tick.
unfoldable pub walk : Tree → (ℕ → ℕ → ℕ) → ℕ → Position
walk t values zero = record { location = 0; done = 0 }
walk t values (suc n) = move t (values n) (walk t values n)
