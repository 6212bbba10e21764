-- What happens to a lent slice: it begins as a ramp, points lower its entries, two passes settle it.
use Rattle.std.specs.Prelude.{◌≡◌, List, ℕ, ◌+◌, ◌≤◌, ◌<◌, min, length}
use Rattle.table.specs.Columns.{entry}

-- The entries below n are f's.
abbrev pub Entries : ℕ → (ℕ → ℕ) → List ℕ → Type 0
Entries n f xs = (v : ℕ) → v < n → entry xs v ≡ f v

-- Entries 0 to last become f; later entries stay.
pub record Becomes (last : ℕ) (f : ℕ → ℕ) (before after : List ℕ) : Type 0 where
  pub long : length after ≡ length before
  pub each : (i : ℕ) → i ≤ last → entry after i ≡ f i
  pub later : (i : ℕ) → last < i → entry after i ≡ entry before i

-- Every point of the set, a length n with a count m, lowers entry n to m, or the last entry where n is beyond it; nothing else changes:
-- what no point of the set is below and no entry was below, none is below.
pub record Lowers (last : ℕ) (Q : ℕ → ℕ → Type 0) (before after : List ℕ) : Type 0 where
  pub long : length after ≡ length before
  pub falls : (i : ℕ) → entry after i ≤ entry before i
  pub later : (i : ℕ) → last < i → entry after i ≡ entry before i
  pub met : (n m : ℕ) → Q n m → entry after (min n last) ≤ m
  pub sound : (f : ℕ → ℕ) → ((n m : ℕ) → Q n m → f (min n last) ≤ m) → ((i : ℕ) → i ≤ last → f i ≤ entry before i) → (i : ℕ) → i ≤ last → f i ≤ entry after i

-- ---- sets of points

-- One point.
abbrev pub Single : ℕ → ℕ → ℕ → ℕ → Type 0
Single n m x y = (x ≡ n) × (y ≡ m)

-- The points of the sets below n.
abbrev pub Until : (ℕ → ℕ → ℕ → Type 0) → ℕ → ℕ → ℕ → Type 0
Until Q n x y = (v : ℕ) × (v < n) × Q v x y

-- Entry i and a whole cycle.
abbrev pub Longer : ℕ → ℕ → List ℕ → ℕ → ℕ → ℕ → Type 0
Longer period cycle xs i x y = Single (i + period) (entry xs i + cycle) x y
