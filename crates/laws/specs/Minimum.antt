-- The least of finitely many numbers, with a number that stands where there is none.
use Rattle.std.specs.Prelude.{Bool, ℕ, zero, suc, min}
use Rattle.laws.specs.Test.{pick}

-- The least of d and of f i, over the i below n that pass.
unfoldable pub minimum : (ℕ → Bool) → (ℕ → ℕ) → ℕ → ℕ → ℕ
minimum ok f d zero = d
minimum ok f d (suc n) = min (pick (ok n) (f n) d) (minimum ok f d n)
