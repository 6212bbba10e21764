-- A set of the numbers below n is below 2 ^ n and names just the numbers that pass: the bits above a bit are even multiples of it. Assumes nothing.
use mathlib.Core.Path.{◌≡◌, refl, ap, ◌∙◌}
use mathlib.Core.Bool.{Bool, true, false}
use mathlib.Core.Logic.{inl, inr}
use Prim.Native.Nat.{ℕ, zero, suc, ◌+◌, ◌-◌, ◌*◌, ◌/◌, ◌%◌, ◌^◌, ◌≤◌, ◌<◌}
use native.Mathlib.Omega.{arith}
use native.Mathlib.Numerals.{add-one}
use native.Mathlib.Nat.{pow-suc, add-zero, add-div_right, add-mul-div_right, add-mul-mod_self_right, div-eq_of_lt, lt_of_lt_of_le}
use lib.Dec.{eqb}
use lib.Pow.{pow_pos, pow_mono, pow-add}
use Rattle.laws.specs.Test.{pick}
use Rattle.laws.specs.Sum.{sum}
use Rattle.laws.specs.Bits.{in_set, set_of}
use Rattle.laws.proofs.Test.{last_or_before}
use Rattle.laws.proofs.Sum.{sum_last₀, sum_same}

pub set_none : (p : ℕ → Bool) → set_of p 0 ≡ 0
unfolding sum
set_none p = refl

pub set_more : (p : ℕ → Bool) (n : ℕ) → set_of p (n + 1) ≡ set_of p n + pick (p n) (2 ^ n) 0
set_more p n = rw add-one (sum_last₀ (λ i. pick (p i) (2 ^ i) 0) n)

pub set_with : (p : ℕ → Bool) (n x : ℕ) → x ≡ set_of p n → p n ≡ true → x + 2 ^ n ≡ set_of p (n + 1)
set_with p n x e y = rw (e, set_more p n, y)

pub set_without : (p : ℕ → Bool) (n x : ℕ) → x ≡ set_of p n → p n ≡ false → x ≡ set_of p (n + 1)
set_without p n x e y = rw (e, set_more p n, y) (omega arith)

-- tests that agree below n
pub set_same : (p r : ℕ → Bool) (n : ℕ) → ((i : ℕ) → i < n → p i ≡ r i) → set_of p n ≡ set_of r n
set_same p r n e = sum_same (λ i. pick (p i) (2 ^ i) 0) (λ i. pick (r i) (2 ^ i) 0) 0 0 n (λ i l. ap (λ b. pick b (2 ^ (0 + i)) 0) (e (0 + i) (omega arith)))

pub set_small : (p : ℕ → Bool) (n : ℕ) → set_of p n < 2 ^ n
unfolding sum
set_small p zero = omega arith
set_small p (suc n) = rw (sum_last₀ (λ i. pick (p i) (2 ^ i) 0) n, pow-suc 2 n) (go (p n) (set_small p n))
  where
    go : (b : Bool) → set_of p n < 2 ^ n → set_of p n + pick b (2 ^ n) 0 < 2 ^ n * 2
    go true h = omega arith
    go false h = omega arith

-- ---- membership

bit_here : (x n : ℕ) (b : Bool) → x < 2 ^ n → in_set (x + pick b (2 ^ n) 0) n ≡ b
bit_here x n true h = rw (add-div_right x (pow_pos n), div-eq_of_lt h)
bit_here x n false h = rw (add-zero x, div-eq_of_lt h)

bit_before : (x i n : ℕ) → i < n → (x + 2 ^ n) / 2 ^ i % 2 ≡ x / 2 ^ i % 2
bit_before x i n l =
    let k = n - suc i in
    let e : n ≡ suc k + i = omega arith in
    let f : 2 ^ n ≡ 2 ^ k * 2 * 2 ^ i = ap (λ m. 2 ^ m) e ∙ (pow-add 2 (suc k) i ∙ ap (λ m. m * 2 ^ i) (pow-suc 2 k)) in
    ap (λ m. (x + m) / 2 ^ i % 2) f
    ∙ (ap (λ m. m % 2) (add-mul-div_right x (2 ^ k * 2) (pow_pos i))
    ∙ add-mul-mod_self_right (x / 2 ^ i) (2 ^ k) 2)

bit_above : (x i n : ℕ) (b : Bool) → i < n → in_set (x + pick b (2 ^ n) 0) i ≡ in_set x i
bit_above x i n true l = ap (λ m. eqb m 1) (bit_before x i n l)
bit_above x i n false l = rw (add-zero x)

pub in_set_of : (p : ℕ → Bool) (n i : ℕ) → i < n → in_set (set_of p n) i ≡ p i
in_set_of p zero i l = absurd (omega arith)
in_set_of p (suc n) i l = rw (sum_last₀ (λ i. pick (p i) (2 ^ i) 0) n) (elim (last_or_before i n l) [
  | inl e ↦ rw e (bit_here (set_of p n) n (p n) (set_small p n))
  | inr m ↦ bit_above (set_of p n) i n (p n) m ∙ in_set_of p n i m
])

-- a set below 2 ^ n has no number from n on
pub in_set_past : (x n i : ℕ) → x < 2 ^ n → n ≤ i → in_set x i ≡ false
in_set_past x n i h l = rw (div-eq_of_lt (lt_of_lt_of_le h (pow_mono l)))
