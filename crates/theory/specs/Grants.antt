-- Grants: which queue each tick goes to, and how many ticks of a window.
use Rattle.std.specs.Prelude.{Bool, not, ℕ, eqb}
use Rattle.laws.specs.Test.{bit}
use Rattle.laws.specs.Sum.{sum}

-- A stream of grants: tick n goes to queue g n, or to nobody where that is 0.
abbrev pub Stream : Type 0
Stream = ℕ → ℕ

-- Of the t ticks from tick s on, those whose queue passes the test.
abbrev pub count : (ℕ → Bool) → Stream → ℕ → ℕ → ℕ
count p g s t = sum (λ n. bit (p (g n))) s t

-- The test "goes to queue q".
abbrev pub is : ℕ → ℕ → Bool
is q x = eqb x q

-- The test turned round: "goes to another".
abbrev pub others : (ℕ → Bool) → ℕ → Bool
others p x = not (p x)
