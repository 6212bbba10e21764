-- Laws of tests. Assumes nothing.
use mathlib.Core.Path.{◌≡◌, refl, ap₂}
use mathlib.Core.Bool.{Bool, true, false, not, ◌&&◌, ◌||◌}
use mathlib.Core.Logic.{◌⊎◌, inl, inr}
use Prim.Native.Nat.{ℕ, zero, suc, ◌≤◌, ◌<◌}
use native.Mathlib.Omega.{arith}
use native.Mathlib.Decide.{dec_le}
use lib.Dec.{T, T_not, not_T, eqb, eqb→eq, eqb_refl}
use Rattle.laws.specs.Test.{pick, bit, none}

-- ---- cases

pub either : (b : Bool) → T b ⊎ T (not b)
either true = inl tt
either false = inr tt

pub le_or_lt : (a b : ℕ) → (a ≤ b) ⊎ (b < a)
le_or_lt a b = go (dec_le a b)
  where
    go : Dec (a ≤ b) → (a ≤ b) ⊎ (b < a)
    go (yes h) = inl h
    go (no h) = inr (omega arith)

pub same_or_not : (a b : ℕ) → (a ≡ b) ⊎ ¬ (a ≡ b)
same_or_not a b = elim (le_or_lt a b) [ inl l ↦ elim (le_or_lt b a) [ inl m ↦ inl (omega arith) | inr m ↦ inr (omega arith) ] | inr l ↦ inr (omega arith) ]

-- the last of the numbers below n + 1, or one before
pub last_or_before : (j n : ℕ) → j < suc n → (j ≡ n) ⊎ (j < n)
last_or_before j n l = elim (le_or_lt n j) [ inl h ↦ inl (omega arith) | inr h ↦ inr h ]

pub eqb_of : (a b : ℕ) → a ≡ b → T (eqb a b)
eqb_of a b e = rw e (eqb_refl b)

pub neqb_of : (a b : ℕ) → ¬ (a ≡ b) → T (not (eqb a b))
neqb_of a b h = not_T (eqb a b) (λ t. h (eqb→eq a b t))

-- ---- and, or

pub and_left : (a b : Bool) → T (a && b) → T a
and_left true b t = tt
and_left false b t = absurd t

pub and_right : (a b : Bool) → T (a && b) → T b
and_right true b t = t
and_right false b t = absurd t

pub and_both : (a b : Bool) → T a → T b → T (a && b)
and_both true b t u = u
and_both false b t u = absurd t

pub and_fails_left : (a b : Bool) → T (not a) → T (not (a && b))
and_fails_left true b t = absurd t
and_fails_left false b t = tt

pub and_fails_right : (a b : Bool) → T (not (a && b)) → T a → T (not b)
and_fails_right true b t u = t
and_fails_right false b t u = absurd u

pub or_cases : (a b : Bool) → T (a || b) → T a ⊎ T b
or_cases true b t = inl tt
or_cases false b t = inr t

pub or_left : (a b : Bool) → T a → T (a || b)
or_left true b t = tt
or_left false b t = absurd t

pub or_right : (a b : Bool) → T b → T (a || b)
or_right true b t = tt
or_right false b t = t

-- ---- pick and bit

pub pick_yes : (b : Bool) (x y : ℕ) → T b → pick b x y ≡ x
pick_yes true x y t = refl
pick_yes false x y t = absurd t

pub pick_no : (b : Bool) (x y : ℕ) → T (not b) → pick b x y ≡ y
pick_no true x y t = absurd t
pick_no false x y t = refl

pub pick_same : (b : Bool) (x : ℕ) → pick b x x ≡ x
pick_same true x = refl
pick_same false x = refl

-- a number or nothing is at most the number
pub pick_le : (b : Bool) (x : ℕ) → pick b x 0 ≤ x
pick_le true x = omega arith
pick_le false x = omega arith

pub pick_some : (b : Bool) (x : ℕ) → 0 < pick b x 0 → T b × (0 < x)
pick_some true x h = (tt, h)
pick_some false x h = absurd (omega arith)

pub bit_yes : (b : Bool) → T b → bit b ≡ 1
bit_yes b = pick_yes b 1 0

pub bit_no : (b : Bool) → T (not b) → bit b ≡ 0
bit_no b = pick_no b 1 0

pub bit_le : (b : Bool) → bit b ≤ 1
bit_le b = pick_le b 1

-- ---- none

pub some_of : (p : ℕ → Bool) (n : ℕ) → T (not (none p n)) → (i : ℕ) × (i < n) × T (p i)
unfolding none
some_of p zero t = absurd t
some_of p (suc n) t = go (either (p n)) (some_of p n)
  where
    rest : (a b : Bool) → T (not (not a && b)) → T (not a) → T (not b)
    rest true b t u = absurd u
    rest false b t u = t

    go : T (p n) ⊎ T (not (p n)) → (T (not (none p n)) → (i : ℕ) × (i < n) × T (p i)) → (i : ℕ) × (i < suc n) × T (p i)
    go (inl y) ih = (n, omega arith, y)
    go (inr y) ih = let r = ih (rest (p n) (none p n) t y) in (r.0, omega (arith, r.1), r.2)

pub none_not : (p : ℕ → Bool) (n i : ℕ) → i < n → T (p i) → T (not (none p n))
unfolding none
none_not p zero i l y = absurd (omega arith)
none_not p (suc n) i l y = elim (last_or_before i n l) [
  | inl e ↦ here (p n) (none p n) (rw (← e) y)
  | inr h ↦ there (p n) (none p n) (none_not p n i h y)
]
  where
    here : (a b : Bool) → T a → T (not (not a && b))
    here true b y = tt
    here false b y = absurd y

    there : (a b : Bool) → T (not b) → T (not (not a && b))
    there true b y = tt
    there false b y = y

pub none_all : (p : ℕ → Bool) (n : ℕ) → ((i : ℕ) → i < n → T (not (p i))) → T (none p n)
none_all p n h = elim (either (none p n)) [ inl y ↦ y | inr y ↦ let (i, l, t) = some_of p n y in absurd (T_not (p i) (h i l) t) ]

pub none_each : (p : ℕ → Bool) (n i : ℕ) → T (none p n) → i < n → T (not (p i))
none_each p n i t l = not_T (p i) (λ y. T_not (none p n) (none_not p n i l y) t)

-- tests that agree below n
pub none_same : (p r : ℕ → Bool) (n : ℕ) → ((i : ℕ) → i < n → p i ≡ r i) → none p n ≡ none r n
unfolding none
none_same p r zero e = refl
none_same p r (suc n) e = ap₂ (λ a b. not a && b) (e n (omega arith)) (none_same p r n (λ i l. e i (omega arith)))
