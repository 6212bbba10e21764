-- A list whose first entries are replaced, one after the other.
use Rattle.std.specs.Prelude.{List, ℕ, zero, suc, set}

-- The list xs with f 0, f 1, .. in place of its first n entries.
unfoldable pub up_to : {A : Type 0} → (ℕ → A) → ℕ → List A → List A
up_to f zero xs = xs
up_to f (suc n) xs = set (up_to f n xs) n (f n)
