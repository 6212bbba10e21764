-- Gaps and overlaps among the guards of a location's children, found without trying every value.
-- The children are the numbers i below m that pass ok; low i and high i are the ends of i's guard.
use Rattle.std.specs.Prelude.{Bool, true, false, not, ◌&&◌, ℕ, zero, suc, ◌-◌, leb, ltb}
use Rattle.laws.specs.Test.{pick, none}
use Rattle.laws.specs.Sum.{sum}
use Rattle.laws.specs.Found.{Found, nobody, at}

-- The first where the test holds, the second where it does not.
abbrev pub choose : Bool → Found → Found → Found
choose true a b = a
choose false a b = b

-- x itself where nobody was found, what follows from the one found otherwise.
abbrev pub or_else : Found → ℕ → (ℕ → Found) → Found
or_else nobody x next = at x
or_else (at i) x next = next i

-- From value x on: a child that holds x leads to the value after its guard. k bounds the calls.
unfoldable pub sweep : (ℕ → Found) → (ℕ → ℕ) → ℕ → ℕ → ℕ → Found
sweep find high top zero x = nobody
sweep find high top (suc k) x = choose (ltb top x) nobody (or_else (find x) x (λ i. sweep find high top k (suc (high i))))

module _ (ok : ℕ → Bool) (low high : ℕ → ℕ) (m : ℕ) where
  -- Value x is in the guard of the child i.
  abbrev pub held_by : ℕ → ℕ → Bool
  held_by x i = ok i && (leb (low i) x && leb x (high i))

  -- Value x is in no child's guard.
  abbrev pub is_gap : ℕ → Bool
  is_gap x = none (held_by x) m

  -- The guards of i and j share a value.
  abbrev pub meets : ℕ → ℕ → Bool
  meets i j = leb (low i) (high j) && leb (low j) (high i)

  -- Two children share a value.
  abbrev pub overlaps : Bool
  overlaps = not (none (λ i. ok i && not (none (λ j. ok j && meets i j) i)) m)

  -- How many values the guards hold, each counted for every child that holds it.
  abbrev pub widths : ℕ
  widths = sum (λ i. pick (ok i) (suc (high i) - low i) 0) 0 m
