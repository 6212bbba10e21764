-- Work that comes and goes, tick by tick. Over any stretch, what is there at the end and what went is what was there at the start and what came; and where the grants of every
-- stretch cover what came, nothing remains, since a granted tick is idle only where nothing is left. Assumes nothing.
use mathlib.Core.Path.{◌≡◌}
use mathlib.Core.Logic.{◌⊎◌, inl, inr}
use Prim.Native.Nat.{ℕ, zero, suc, ◌+◌, ◌≤◌, ◌<◌}
use native.Mathlib.Nat.{add-suc, add-zero}
use native.Mathlib.Omega.{arith}
use Rattle.laws.specs.Sum.{sum}
use Rattle.laws.proofs.Sum.{sum_last}

pub balance : (there came went : ℕ → ℕ) (s t : ℕ) → ((i : ℕ) → i < t → there (suc (s + i)) + went (s + i) ≡ there (s + i) + came (s + i))
    → there (s + t) + sum went s t ≡ there s + sum came s t
unfolding sum
balance there came went s zero h = rw (add-zero s) (omega arith)
balance there came went s (suc t) h =
    rw (sum_last came s t, sum_last went s t, add-suc s t) (omega (arith, balance there came went s t (λ i l. h i (omega arith)), h t (omega arith)))

-- before n: what is there before tick n; came n: what tick n brings; after n: what is there once tick n is granted; grant n: 1 or 0.
-- What is there may be dropped between two ticks.
module _ (d : ℕ) (before after came grant : ℕ → ℕ) (start : before 0 ≡ 0)
    (serve : (n : ℕ) → n < d → (after n ≡ 0) ⊎ (after n + grant n ≤ before n + came n))
    (keep : (n : ℕ) → n < d → before (suc n) ≤ after n) where
  -- some stretch that ends at n has fewer grants than came, by the x that are there
  abbrev Busy : ℕ → ℕ → Type 0
  Busy n x = (s a : ℕ) × (s + a ≡ n) × (x + sum grant s a ≤ sum came s a)

  served : (n : ℕ) → n < d → Busy n (before n) → Busy (suc n) (after n)
  unfolding sum
  served n l (s, a, e, h) = elim (serve n l) [
    | inl z ↦ (suc n, 0, omega arith, omega arith)
    | inr z ↦ (s, suc a, omega arith, rw (sum_last grant s a, sum_last came s a, e) (omega arith))
  ]

  busy : (n : ℕ) → n ≤ d → Busy n (before n)
  unfolding sum
  busy zero l = (0, 0, omega arith, omega arith)
  busy (suc n) l = let (s, a, e, h) = served n l (busy n (omega arith)) in (s, a, e, omega (arith, keep n l))

  pub no_backlog : (n : ℕ) → n < d → ((s a : ℕ) → s + a ≡ suc n → sum came s a ≤ sum grant s a) → after n ≡ 0
  no_backlog n l covers = let (s, a, e, h) = served n l (busy n (omega arith)) in omega (arith, covers s a e)
