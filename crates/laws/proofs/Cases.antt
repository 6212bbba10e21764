-- A test and a number by their cases: as facts, and in definitions that go by cases. Assumes nothing.
use mathlib.Core.Path.{◌≡◌, refl}
use mathlib.Core.Bool.{Bool, true, false, not}
use Prim.Native.Nat.{ℕ, zero, suc}
use lib.Dec.{T}

-- a test's answer as code has it, and as a fact
pub is_true : (b : Bool) → T b → b ≡ true
is_true true t = refl
is_true false t = absurd t

pub is_false : (b : Bool) → T (not b) → b ≡ false
is_false true t = absurd t
is_false false t = refl

pub of_true : (b : Bool) → b ≡ true → T b
of_true b e = rw e tt

pub of_false : (b : Bool) → b ≡ false → T (not b)
of_false b e = rw e tt

-- what is not false is true
pub not_not : (b : Bool) → T (not (not b)) → T b
not_not true t = tt
not_not false t = absurd t

module _ {A : Type 0} where
  pub zero_case : (n : ℕ) (a : A) (f : ℕ → A) → n ≡ 0 → elim n as (λ (k : ℕ). A) [ zero ↦ a | suc m ↦ f (suc m) ] ≡ a
  zero_case n a f e = rw e

  pub suc_case : (n : ℕ) (a : A) (f : ℕ → A) → ¬ (n ≡ 0) → elim n as (λ (k : ℕ). A) [ zero ↦ a | suc m ↦ f (suc m) ] ≡ f n
  suc_case zero a f h = absurd (h refl)
  suc_case (suc m) a f h = refl

  pub true_case : (b : Bool) (x y : A) → T b → elim b as (λ (c : Bool). A) [ true ↦ x | false ↦ y ] ≡ x
  true_case true x y t = refl
  true_case false x y t = absurd t

  pub false_case : (b : Bool) (x y : A) → T (not b) → elim b as (λ (c : Bool). A) [ true ↦ x | false ↦ y ] ≡ y
  false_case true x y t = absurd t
  false_case false x y t = refl
