-- Sets of numbers as bits: number i is in the set where bit i is 1.
use Rattle.std.specs.Prelude.{Bool, ℕ, ◌/◌, ◌%◌, ◌^◌, eqb}
use Rattle.laws.specs.Test.{pick}
use Rattle.laws.specs.Sum.{sum}

abbrev pub in_set : ℕ → ℕ → Bool
in_set set i = eqb (set / 2 ^ i % 2) 1

-- The set of the numbers below n that pass.
abbrev pub set_of : (ℕ → Bool) → ℕ → ℕ
set_of p n = sum (λ i. pick (p i) (2 ^ i) 0) 0 n
