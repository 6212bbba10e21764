-- One sum for ticks, tasks, releases and widths.
use Rattle.std.specs.Prelude.{ℕ, zero, suc, ◌+◌}

-- h s + h (s + 1) + .., t terms.
unfoldable pub sum : (ℕ → ℕ) → ℕ → ℕ → ℕ
sum h s zero = 0
sum h s (suc t) = h s + sum h (suc s) t
