-- The two passes that fill a slice of bounds from its points.
use Rattle.std.specs.Prelude.{ℕ, zero, suc, ◌+◌, ◌-◌, min}

-- Downward: the least of the entries t, .., t + k.
unfoldable pub down : (ℕ → ℕ) → ℕ → ℕ → ℕ
down out zero t = out t
down out (suc k) t = min (out t) (down out k (suc t))

-- Upward: entry t + 1 is at most one more than entry t.
unfoldable pub up : (ℕ → ℕ) → ℕ → ℕ
up out zero = out 0
up out (suc t) = min (out (suc t)) (up out t + 1)

-- Both, over the entries 0 to last.
abbrev pub filling : (ℕ → ℕ) → ℕ → ℕ → ℕ
filling out last t = up (λ n. down out (last - n) n) t
