-- The search that goes up finds the first. Assumes nothing.
use mathlib.Core.Path.{◌≡◌, refl, ap, subst}
use mathlib.Core.Bool.{Bool, true, false, not}
use mathlib.Core.Logic.{inl, inr}
use Prim.Native.Nat.{ℕ, zero, suc, ◌+◌, ◌≤◌, ◌<◌, zero-le}
use native.Mathlib.Nat.{le_refl}
use native.Mathlib.Omega.{arith}
use lib.Dec.{T, T_not}
use Rattle.laws.specs.Found.{Found, nobody, at, found, first, IsFirst}
use Rattle.laws.proofs.Test.{le_or_lt}

pub found_case : (b : Bool) (n : ℕ) (o : Found) (A : Found → Type 0) → (T b → A (at n)) → (T (not b) → A o) → A (found b n o)
found_case true n o A y x = y tt
found_case false n o A y x = x tt

pub first_is : (p : ℕ → Bool) (a k : ℕ) → IsFirst p a k (first p a k)
unfolding first IsFirst
first_is p a zero = λ i l h. absurd (omega arith)
first_is p a (suc k) =
    found_case (p a) a (first p (suc a) k) (IsFirst p a (suc k))
    (λ y. (le_refl a, omega arith, y, λ i l h. absurd (omega arith)))
    (λ n. go n (first p (suc a) k) (first_is p (suc a) k))
  where
    here : T (not (p a)) → (i : ℕ) → a ≤ i → (suc a ≤ i → T (not (p i))) → T (not (p i))
    here n i l h = elim (le_or_lt i a) [ inl y ↦ let e : i ≡ a = omega arith in rw e n | inr y ↦ h y ]

    go : T (not (p a)) → (o : Found) → IsFirst p (suc a) k o → IsFirst p a (suc k) o
    go n nobody h = λ i l u. here n i l (λ y. h i y (omega arith))
    go n (at t) h = (omega (arith, h.0), omega (arith, h.1), h.2, λ i l u. here n i l (λ y. h.3 i y u))

-- what has the first one's properties is what the search finds
pub first_none : (p : ℕ → Bool) (a k : ℕ) → ((i : ℕ) → a ≤ i → i < a + k → T (not (p i))) → first p a k ≡ nobody
unfolding IsFirst
first_none p a k h = go (first p a k) (first_is p a k)
  where
    go : (o : Found) → IsFirst p a k o → o ≡ nobody
    go nobody f = refl
    go (at t) f = absurd (T_not (p t) (h t f.0 f.1) f.2)

pub first_found : (p : ℕ → Bool) (a k t : ℕ) → a ≤ t → t < a + k → T (p t) → ((i : ℕ) → a ≤ i → i < t → T (not (p i))) → first p a k ≡ at t
unfolding IsFirst
first_found p a k t l m y h = go (first p a k) (first_is p a k)
  where
    go : (o : Found) → IsFirst p a k o → o ≡ at t
    go nobody f = absurd (T_not (p t) (f t l m) y)
    go (at u) f = elim (le_or_lt u t) [
      | inl g ↦ elim (le_or_lt t u) [
        | inl e ↦ ap at (omega arith)
        | inr e ↦ absurd (T_not (p u) (h u f.0 e) f.2)
      ]
      | inr g ↦ absurd (T_not (p t) (f.3 t l g) y)
    ]

-- where the search finds nobody, nobody passes
pub first_nobody : (p : ℕ → Bool) (k i : ℕ) → first p 0 k ≡ nobody → i < k → T (not (p i))
unfolding IsFirst
first_nobody p k i e l = (subst (IsFirst p 0 k) e (first_is p 0 k)) i zero-le (omega arith)
