-- Laws of sums. Assumes nothing.
use mathlib.Core.Path.{◌≡◌, refl, sym, ap₂, ◌∙◌}
use mathlib.Core.Bool.{Bool, true, false, not}
use mathlib.Core.Logic.{◌⊎◌, inl, inr}
use Prim.Native.Nat.{ℕ, zero, suc, ◌+◌, ◌-◌, ◌*◌, ◌≤◌, ◌<◌, zero-le, suc-le-suc}
use native.Mathlib.Nat.{add-zero, zero-add, add-suc, suc-add, zero-mul}
use native.Mathlib.Omega.{arith}
use lib.Dec.{T}
use Rattle.laws.specs.Test.{pick, bit}
use Rattle.laws.specs.Sum.{sum}
use Rattle.laws.proofs.Test.{either, bit_yes, bit_no}

-- ---- splitting

pub sum_split : (h : ℕ → ℕ) (s a b : ℕ) → sum h s (a + b) ≡ sum h s a + sum h (s + a) b
unfolding sum
sum_split h s zero b = rw (zero-add b, add-zero s) (omega arith)
sum_split h s (suc a) b = rw (suc-add a b, sum_split h (suc s) a b, add-suc s a, suc-add s a) (omega arith)

-- from 0 on
pub sum_split₀ : (h : ℕ → ℕ) (a b : ℕ) → sum h 0 (a + b) ≡ sum h 0 a + sum h a b
sum_split₀ h a b = rw (zero-add a) at (sum_split h 0 a b)

pub sum_last : (h : ℕ → ℕ) (s t : ℕ) → sum h s (suc t) ≡ sum h s t + h (s + t)
unfolding sum
sum_last h s zero = rw (add-zero s) (omega arith)
sum_last h s (suc t) = rw (sum_last h (suc s) t, add-suc s t, suc-add s t) (omega arith)

pub sum_last₀ : (h : ℕ → ℕ) (t : ℕ) → sum h 0 (suc t) ≡ sum h 0 t + h t
sum_last₀ h t = rw (zero-add t) at (sum_last h 0 t)

-- ---- comparing, term by term, each sum from its own start on: agreement and shifting in one

pub sum_same : (h k : ℕ → ℕ) (s r t : ℕ) → ((i : ℕ) → i < t → h (s + i) ≡ k (r + i)) → sum h s t ≡ sum k r t
unfolding sum
sum_same h k s r zero e = refl
sum_same h k s r (suc t) e =
    ap₂ ◌+◌ (rw (add-zero s, add-zero r) at (e 0 (omega arith)))
    (sum_same h k (suc s) (suc r) t (λ i l. rw (suc-add s i, suc-add r i) (rw (add-suc s i, add-suc r i) at (e (suc i) (suc-le-suc l)))))

pub sum_le : (h k : ℕ → ℕ) (s r t : ℕ) → ((i : ℕ) → i < t → h (s + i) ≤ k (r + i)) → sum h s t ≤ sum k r t
unfolding sum
sum_le h k s r zero e = zero-le
sum_le h k s r (suc t) e =
    let p : h s ≤ k r = rw (add-zero s, add-zero r) at (e 0 (omega arith)) in
    let q : sum h (suc s) t ≤ sum k (suc r) t = sum_le h k (suc s) (suc r) t (λ i l. rw (suc-add s i, suc-add r i) (rw (add-suc s i, add-suc r i) at (e (suc i) (suc-le-suc l)))) in
    omega arith

-- two sums that differ at one place only
pub sum_change : (h k : ℕ → ℕ) (s t j : ℕ) → j < t → ((i : ℕ) → i < t → ¬ (i ≡ j) → h (s + i) ≡ k (s + i)) → sum h s t + k (s + j) ≡ sum k s t + h (s + j)
unfolding sum
sum_change h k s zero j l e = absurd (omega arith)
sum_change h k s (suc t) zero l e =
    let r = sum_same h k (suc s) (suc s) t (λ i m. rw (suc-add s i) (rw (add-suc s i) at (e (suc i) (suc-le-suc m) (omega arith)))) in
    rw (add-zero s) (omega arith)
sum_change h k s (suc t) (suc j) l e =
    let p : h s ≡ k s = rw (add-zero s) at (e 0 (omega arith) (omega arith)) in
    let r = sum_change h k (suc s) t j (omega arith) (λ i m d. rw (suc-add s i) (rw (add-suc s i) at (e (suc i) (suc-le-suc m) (omega arith)))) in
    rw (add-suc s j) (omega (arith, rw (suc-add s j) at r))

-- ---- constants, sums, products, double sums

pub sum_const : (c s t : ℕ) → sum (λ n. c) s t ≡ t * c
unfolding sum
sum_const c s zero = rw zero-mul
sum_const c s (suc t) = rw (sum_const c (suc s) t) (omega arith)

pub sum_zero : (h : ℕ → ℕ) (s t : ℕ) → ((i : ℕ) → i < t → h (s + i) ≡ 0) → sum h s t ≡ 0
sum_zero h s t e = sum_same h (λ n. 0) s s t e ∙ (sum_const 0 s t ∙ omega arith)

pub sum_one : (h : ℕ → ℕ) (s t : ℕ) → ((i : ℕ) → i < t → h (s + i) ≡ 1) → sum h s t ≡ t
sum_one h s t e = sum_same h (λ n. 1) s s t e ∙ (sum_const 1 s t ∙ omega arith)

pub sum_add : (h k : ℕ → ℕ) (s t : ℕ) → sum (λ n. h n + k n) s t ≡ sum h s t + sum k s t
unfolding sum
sum_add h k s zero = refl
sum_add h k s (suc t) = rw (sum_add h k (suc s) t) (omega arith)

pub sum_scale : (c : ℕ) (h : ℕ → ℕ) (s t : ℕ) → sum (λ n. c * h n) s t ≡ c * sum h s t
unfolding sum
sum_scale c h s zero = omega arith
sum_scale c h s (suc t) = rw (sum_scale c h (suc s) t) (omega arith)

-- sums over tasks and over ticks change places
pub sum_swap : (f : ℕ → ℕ → ℕ) (a m s t : ℕ) → sum (λ i. sum (f i) s t) a m ≡ sum (λ n. sum (λ i. f i n) a m) s t
unfolding sum
sum_swap f a zero s t = sym (sum_zero (λ n. 0) s t (λ i l. refl))
sum_swap f a (suc m) s t = rw (sum_swap f (suc a) m s t) (sym (sum_add (f a) (λ n. sum (λ i. f i n) (suc a) m) s t))

pub sum_pick : (b : Bool) (h : ℕ → ℕ) (s t : ℕ) → sum (λ n. pick b (h n) 0) s t ≡ pick b (sum h s t) 0
sum_pick true h s t = refl
sum_pick false h s t = sum_zero (λ n. 0) s t (λ i l. refl)

-- ---- one term

-- a sum above 0 has a term above 0
pub sum_some : (h : ℕ → ℕ) (s t : ℕ) → 0 < sum h s t → (i : ℕ) × (i < t) × (0 < h (s + i))
unfolding sum
sum_some h s zero p = absurd (omega arith)
sum_some h s (suc t) p = go (h s) refl (sum_some h (suc s) t)
  where
    go : (x : ℕ) → h s ≡ x → (0 < sum h (suc s) t → (i : ℕ) × (i < t) × (0 < h (suc s + i))) → (i : ℕ) × (i < suc t) × (0 < h (s + i))
    go zero e ih =
        let r = ih (omega arith) in
        (suc r.0, suc-le-suc r.1, rw (add-suc s r.0) (rw (suc-add s r.0) at r.2))
    go (suc x) e ih = (0, omega arith, rw (add-zero s) (omega arith))

-- a term is at most the sum
pub term_le : (h : ℕ → ℕ) (s t i : ℕ) → i < t → h (s + i) ≤ sum h s t
unfolding sum
term_le h s zero i l = absurd (omega arith)
term_le h s (suc t) zero l = rw (add-zero s) (omega arith)
term_le h s (suc t) (suc i) l = rw (add-suc s i) (omega (arith, rw (suc-add s i) at (term_le h (suc s) t i (omega arith))))

pub term_le₀ : (h : ℕ → ℕ) (t i : ℕ) → i < t → h i ≤ sum h 0 t
term_le₀ h t i l = rw (zero-add i) at (term_le h 0 t i l)

-- ---- how many numbers pass

-- at most one, where two that pass are the same
pub at_most_one : (p : ℕ → Bool) (n : ℕ) → ((i j : ℕ) → i < n → j < n → T (p i) → T (p j) → i ≡ j) → sum (λ i. bit (p i)) 0 n ≤ 1
unfolding sum
at_most_one p zero h = omega arith
at_most_one p (suc n) h =
    let r = sum_last₀ (λ i. bit (p i)) n in
    elim (either (p n)) [
      | inl y ↦
          let z = sum_zero (λ i. bit (p i)) 0 n (λ i l. bit_no (p (0 + i)) (other (0 + i) (omega arith) y (either (p (0 + i))))) in
          omega (arith, r, bit_yes (p n) y)
      | inr y ↦ omega (arith, r, bit_no (p n) y, at_most_one p n (λ i j a b. h i j (omega arith) (omega arith)))
    ]
  where
    other : (i : ℕ) → i < n → T (p n) → T (p i) ⊎ T (not (p i)) → T (not (p i))
    other i l y (inl x) = absurd (omega (arith, h i n (omega arith) (omega arith) x y))
    other i l y (inr x) = x

-- at least two, where two different numbers pass
pub at_least_two : (p : ℕ → Bool) (n i j : ℕ) → i < n → j < i → T (p i) → T (p j) → 2 ≤ sum (λ i. bit (p i)) 0 n
at_least_two p n i j l g a b =
    let e : i + (n - i) ≡ n = omega arith in
    omega (
      arith,
      rw e at (sum_split₀ (λ i. bit (p i)) i (n - i)),
      term_le₀ (λ i. bit (p i)) i j g,
      rw (add-zero i) at (term_le (λ i. bit (p i)) i (n - i) 0 (omega arith)),
      bit_yes (p i) a,
      bit_yes (p j) b,
    )
