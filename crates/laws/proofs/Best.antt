-- The best is one that passes with the smallest key, and of those the lowest. Assumes nothing.
use mathlib.Core.Path.{◌≡◌, refl, sym, ap, ap₂, ◌∙◌}
use mathlib.Core.Bool.{Bool, ◌&&◌}
use mathlib.Core.Logic.{◌⊎◌, inl, inr}
use Prim.Native.Nat.{ℕ, zero, suc, ◌+◌, ◌≤◌, ◌<◌}
use native.Mathlib.Omega.{arith}
use native.Mathlib.Numerals.{add-one}
use lib.Dec.{T_not, ltb, ltb→lt, nltb→le}
use Rattle.laws.specs.Found.{Found, nobody, at, found, better, best, IsBest}
use Rattle.laws.proofs.Test.{le_or_lt, last_or_before, and_left, and_right, and_fails_right}
use Rattle.laws.proofs.First.{found_case}

smaller_or_same : (x y i j : ℕ) → x ≤ y → i ≤ j → (x < y) ⊎ ((x ≡ y) × (i ≤ j))
smaller_or_same x y i j a b = elim (le_or_lt y x) [ inl h ↦ inr (omega arith, b) | inr h ↦ inl h ]

module _ (p : ℕ → Bool) (key : ℕ → ℕ) where
  one_more : (n : ℕ) (o : Found) → IsBest p key n o → IsBest p key (suc n) (better p key n o)
  unfolding IsBest
  one_more n nobody h =
      found_case (p n) n nobody (IsBest p key (suc n))
      (λ t. (omega arith, t, λ j l u. elim (last_or_before j n l) [ inl e ↦ inr (ap key (sym e), omega arith) | inr m ↦ absurd (T_not (p j) (h j m) u) ]))
      (λ t j l. elim (last_or_before j n l) [ inl e ↦ rw e t | inr m ↦ h j m ])
  one_more n (at i) h =
      found_case (p n && ltb (key n) (key i)) n (at i) (IsBest p key (suc n))
      (λ t.
      let k = ltb→lt (key n) (key i) (and_right (p n) (ltb (key n) (key i)) t) in (
        omega arith,
        and_left (p n) (ltb (key n) (key i)) t,
        λ j l u. elim (last_or_before j n l) [
          | inl e ↦ inr (ap key (sym e), omega arith)
          | inr m ↦ inl (elim (h.2 j m u) [ inl x ↦ omega arith | inr x ↦ omega arith ])
        ],
      ))
      (λ t. (
        omega arith,
        h.1,
        λ j l u. elim (last_or_before j n l) [
          | inl e ↦
              let k = nltb→le (key n) (key i) (and_fails_right (p n) (ltb (key n) (key i)) t (rw (← e) u)) in
              smaller_or_same (key i) (key j) i j (omega (arith, ap key e)) (omega arith)
          | inr m ↦ h.2 j m u
        ],
      ))

  pub best_is : (n : ℕ) → IsBest p key n (best p key n)
  unfolding best IsBest
  best_is zero = λ j l. absurd (omega arith)
  best_is (suc n) = one_more n (best p key n) (best_is n)

  pub best_none : best p key 0 ≡ nobody
  unfolding best
  best_none = refl

  pub best_more : (n : ℕ) → best p key (n + 1) ≡ better p key n (best p key n)
  unfolding best
  best_more n = rw add-one

-- tests and keys that agree below n
pub best_same : (p r : ℕ → Bool) (key other : ℕ → ℕ) (n : ℕ) → ((i : ℕ) → i < n → p i ≡ r i) → ((i : ℕ) → i < n → key i ≡ other i) → best p key n ≡ best r other n
unfolding best IsBest
best_same p r key other zero e f = refl
best_same p r key other (suc n) e f =
    go (best p key n) (best_is p key n) ∙ ap (better r other n) (best_same p r key other n (λ i l. e i (omega arith)) (λ i l. f i (omega arith)))
  where
    go : (o : Found) → IsBest p key n o → better p key n o ≡ better r other n o
    go nobody h = ap (λ b. found b n nobody) (e n (omega arith))
    go (at i) h = ap₂ (λ b c. found (b && c) n (at i)) (e n (omega arith)) (ap₂ ltb (f n (omega arith)) (f i (omega (arith, h.0))))
