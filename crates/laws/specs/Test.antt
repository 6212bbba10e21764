-- A test is a function into Bool; these turn tests into numbers and into one another.
use Rattle.std.specs.Prelude.{Bool, true, false, not, ◌&&◌, ℕ, zero, suc}

-- The first number where the test holds, the second where it does not.
abbrev pub pick : Bool → ℕ → ℕ → ℕ
pick true a b = a
pick false a b = b

-- A test as a number: 1 where it holds.
abbrev pub bit : Bool → ℕ
bit b = pick b 1 0

-- No number below n passes.
unfoldable pub none : (ℕ → Bool) → ℕ → Bool
none p zero = true
none p (suc n) = not (p n) && none p n

-- Every number passes.
abbrev pub any : ℕ → Bool
any n = true
