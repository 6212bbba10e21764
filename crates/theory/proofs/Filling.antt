-- After the two passes entry t is the least of out n + (t - n) over all n: the pass down carries back what longer windows count,
-- the pass up adds one for each tick more. Assumes nothing.
use mathlib.Core.Path.{◌≡◌, ap}
use mathlib.Core.Logic.{inl, inr}
use Prim.Native.Nat.{ℕ, zero, suc, ◌+◌, ◌-◌, ◌≤◌, ◌<◌, min}
use native.Mathlib.Nat.{add-zero, add-suc, suc-add, le_refl}
use native.Mathlib.Omega.{arith}
use Rattle.laws.proofs.Test.{le_or_lt}
use Rattle.theory.specs.Filling.{down, up, filling}
use Rattle.theory.proofs.Edges.{Slow, slow_from}

-- ---- each pass

module _ (out : ℕ → ℕ) where
  down_le : (k t i : ℕ) → i ≤ k → down out k t ≤ out (t + i)
  unfolding down
  down_le zero t i h = let e : t + i ≡ t = omega arith in rw e (le_refl (out t))
  down_le (suc k) t zero h = rw (add-zero t) (omega arith)
  down_le (suc k) t (suc i) h = rw (add-suc t i) (omega (arith, rw (suc-add t i) at (down_le k (suc t) i (omega arith))))

  down_at : (k t : ℕ) → (i : ℕ) × (i ≤ k) × (out (t + i) ≡ down out k t)
  unfolding down
  down_at zero t = (0, omega arith, ap out (add-zero t))
  down_at (suc k) t = elim (le_or_lt (out t) (down out k (suc t))) [
    | inl h ↦ (0, omega arith, rw (add-zero t) (omega arith))
    | inr h ↦ let (i, l, e) = down_at k (suc t) in (suc i, omega arith, rw (add-suc t i) (omega (arith, rw (suc-add t i) at e)))
  ]

  up_le : (t n : ℕ) → n ≤ t → up out t ≤ out n + (t - n)
  unfolding up
  up_le zero n h = let e : n ≡ 0 = omega arith in rw e (omega arith)
  up_le (suc t) n h = elim (le_or_lt n t) [
    | inl l ↦ omega (arith, up_le t n l)
    | inr l ↦ let e : n ≡ suc t = omega arith in rw e (omega arith)
  ]

  up_at : (t : ℕ) → (n : ℕ) × (n ≤ t) × (out n + (t - n) ≡ up out t)
  unfolding up
  up_at zero = (0, omega arith, omega arith)
  up_at (suc t) = elim (le_or_lt (out (suc t)) (up out t + 1)) [
    | inl h ↦ (suc t, omega arith, omega arith)
    | inr h ↦ let (n, l, e) = up_at t in (n, omega arith, omega arith)
  ]

module _ (out : ℕ → ℕ) (last : ℕ) where
  -- ---- both

  pub filling_le : (t n : ℕ) → t ≤ last → n ≤ last → filling out last t ≤ out n + (t - n)
  filling_le t n h l = elim (le_or_lt n t) [
    | inl g ↦ omega (arith, up_le (λ n. down out (last - n) n) t n g, down_le out (last - n) n 0 (omega arith), ap out (add-zero n))
    | inr g ↦
        let e : t + (n - t) ≡ n = omega arith in
        omega (arith, up_le (λ n. down out (last - n) n) t t (le_refl t), down_le out (last - t) t (n - t) (omega arith), ap out e)
  ]

  pub filling_at : (t : ℕ) → t ≤ last → (n : ℕ) × (n ≤ last) × (out n + (t - n) ≤ filling out last t)
  filling_at t h =
      let (n, l, e) = up_at (λ n. down out (last - n) n) t in
      let (i, m, d) = down_at out (last - n) n in
      (n + i, omega arith, omega arith)

  -- the slice becomes f: no entry is below f before the passes, and each f t is met by some length n and count m that were entered,
  -- in the last entry where n is longer
  pub fills : (f : ℕ → ℕ) → Slow f → ((n : ℕ) → n ≤ last → f n ≤ out n)
      → ((t : ℕ) → t ≤ last → (n : ℕ) × (m : ℕ) × (out (min n last) ≤ m) × (m + (t - n) ≤ f t))
      → (t : ℕ) → t ≤ last → filling out last t ≡ f t
  fills f slow not_below met t h =
      let (n, l, e) = filling_at t h in
      let (k, m, a, b) = met t h in
      omega (arith, not_below n l, filling_le t (min k last) h (omega arith), slow_from f slow t n)

  -- ---- what one step in place writes

  pub down_last : down out (last - last) last ≡ out last
  unfolding down
  down_last = let e : last - last ≡ 0 = omega arith in ap (λ k. down out k last) e

  pub down_step : (t : ℕ) → t < last → down out (last - t) t ≡ min (out t) (down out (last - suc t) (suc t))
  unfolding down
  down_step t h = let e : last - t ≡ suc (last - suc t) = omega arith in ap (λ k. down out k t) e
