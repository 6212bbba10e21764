-- What a search finds: nobody, or a number.
use Rattle.std.specs.Prelude.{Bool, true, false, not, ◌&&◌, ◌⊎◌, ◌≡◌, ℕ, zero, suc, ◌+◌, ◌≤◌, ◌<◌, T, ltb}

pub data Found : Type 0 where
  nobody : Found
  at : ℕ → Found

-- The number n where the test holds, what was found otherwise where it does not.
abbrev pub found : Bool → ℕ → Found → Found
found true n o = at n
found false n o = o

-- The first of a, a + 1, .. (k of them) that passes.
unfoldable pub first : (ℕ → Bool) → ℕ → ℕ → Found
first p a zero = nobody
first p a (suc k) = found (p a) a (first p (suc a) k)

-- What the first one is.
unfoldable pub IsFirst : (ℕ → Bool) → ℕ → ℕ → Found → Type 0
IsFirst p a k nobody = (i : ℕ) → a ≤ i → i < a + k → T (not (p i))
IsFirst p a k (at t) = (a ≤ t) × (t < a + k) × T (p t) × ((i : ℕ) → a ≤ i → i < t → T (not (p i)))

-- Number n in place of the one found so far, where it passes and its key is smaller.
abbrev pub better : (ℕ → Bool) → (ℕ → ℕ) → ℕ → Found → Found
better p key n nobody = found (p n) n nobody
better p key n (at i) = found (p n && ltb (key n) (key i)) n (at i)

-- Of the numbers below n that pass, one with the smallest key; of those the lowest.
unfoldable pub best : (ℕ → Bool) → (ℕ → ℕ) → ℕ → Found
best p key zero = nobody
best p key (suc n) = better p key n (best p key n)

-- What the best one is.
unfoldable pub IsBest : (ℕ → Bool) → (ℕ → ℕ) → ℕ → Found → Type 0
IsBest p key n nobody = (j : ℕ) → j < n → T (not (p j))
IsBest p key n (at i) = (i < n) × T (p i) × ((j : ℕ) → j < n → T (p j) → (key i < key j) ⊎ ((key i ≡ key j) × (i ≤ j)))
