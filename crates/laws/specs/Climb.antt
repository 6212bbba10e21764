-- Recursion from a number to a smaller one, down to 0: from a location to its parent, up to the root.
use Rattle.std.specs.Prelude.{ℕ, zero, suc, eqb}
use Rattle.laws.specs.Test.{pick}

-- At 0 the base; above it f, of the number and of what its parent gives. k bounds the calls: v is enough.
unfoldable pub climb : (ℕ → ℕ) → (ℕ → ℕ) → (ℕ → ℕ → ℕ) → ℕ → ℕ → ℕ
climb parent base f zero v = base v
climb parent base f (suc k) v = pick (eqb v 0) (base v) (f v (climb parent base f k (parent v)))
