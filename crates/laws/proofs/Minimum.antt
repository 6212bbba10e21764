-- Laws of the minimum. Assumes nothing.
use mathlib.Core.Path.{◌≡◌, refl, ap}
use mathlib.Core.Bool.{Bool, not}
use mathlib.Core.Logic.{◌⊎◌, inl, inr}
use Prim.Native.Nat.{ℕ, zero, suc, ◌≤◌, ◌<◌}
use native.Mathlib.Omega.{arith}
use lib.Dec.{T}
use Rattle.laws.specs.Test.{pick}
use Rattle.laws.specs.Minimum.{minimum}
use Rattle.laws.proofs.Test.{either, le_or_lt, last_or_before, pick_yes, pick_no}

-- some i below n passes, and f i is m
abbrev pub At : (ℕ → Bool) → (ℕ → ℕ) → ℕ → ℕ → Type 0
At ok f n m = (i : ℕ) × (i < n) × T (ok i) × (f i ≡ m)

module _ (ok : ℕ → Bool) (f : ℕ → ℕ) (d : ℕ) where
  pub minimum_default : (n : ℕ) → minimum ok f d n ≤ d
  unfolding minimum
  minimum_default zero = omega arith
  minimum_default (suc n) = omega (arith, minimum_default n)

  pub minimum_le : (n i : ℕ) → i < n → T (ok i) → minimum ok f d n ≤ f i
  unfolding minimum
  minimum_le zero i l t = absurd (omega arith)
  minimum_le (suc n) i l t = elim (last_or_before i n l) [
    | inl e ↦ omega (arith, pick_yes (ok n) (f n) d (rw (← e) t), ap f e)
    | inr h ↦ omega (arith, minimum_le n i h t)
  ]

  pub minimum_cases : (n : ℕ) → (minimum ok f d n ≡ d) ⊎ At ok f n (minimum ok f d n)
  unfolding minimum
  minimum_cases zero = inl refl
  minimum_cases (suc n) = go (either (ok n)) (le_or_lt (pick (ok n) (f n) d) (minimum ok f d n)) (minimum_cases n)
    where
      go : T (ok n) ⊎ T (not (ok n)) → (pick (ok n) (f n) d ≤ minimum ok f d n) ⊎ (minimum ok f d n < pick (ok n) (f n) d)
          → (minimum ok f d n ≡ d) ⊎ At ok f n (minimum ok f d n)
          → (minimum ok f d (suc n) ≡ d) ⊎ At ok f (suc n) (minimum ok f d (suc n))
      go b (inr l) (inl u) = inl (omega arith)
      go b (inr l) (inr u) = inr (u.0, omega arith, u.2, omega arith)
      go (inl t) (inl l) u = inr (n, omega arith, t, omega (arith, pick_yes (ok n) (f n) d t))
      go (inr t) (inl l) u = inl (omega (arith, pick_no (ok n) (f n) d t))

  -- where some number that passes is no more than the default, the minimum is met
  pub minimum_at : (n v : ℕ) → v < n → T (ok v) → f v ≤ d → At ok f n (minimum ok f d n)
  minimum_at n v l t h = go (minimum_cases n)
    where
      go : (minimum ok f d n ≡ d) ⊎ At ok f n (minimum ok f d n) → At ok f n (minimum ok f d n)
      go (inl e) = (v, l, t, omega (arith, minimum_le n v l t))
      go (inr r) = r
