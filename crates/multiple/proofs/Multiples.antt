-- Stepping through the multiples of a base: the first that the gap divides is the least common multiple, and none before it is.
-- The multiple only grows with each task. Assumes nothing.
use mathlib.Core.Path.{◌≡◌, refl, sym, ap, ◌∙◌}
use mathlib.Core.Logic.{◌⊎◌, inl, inr}
use Prim.Native.Nat.{ℕ, zero, suc, ◌+◌, ◌*◌, ◌%◌, ◌≤◌, ◌<◌}
use native.Mathlib.Nat.{mul-mod_right, mul-le-mul_right}
use native.Mathlib.Omega.{arith}
use lib.Dec.{T_not, eqb, eqb→eq}
use Rattle.std.specs.Prelude.{None, Some}
use Rattle.std.proofs.lemmas.Bool.Decides.{leb_tells}
use Rattle.laws.specs.Found.{Found, nobody, at, first, IsFirst}
use Rattle.laws.proofs.Test.{either, le_or_lt, last_or_before, eqb_of, neqb_of, pick_yes, pick_no}
use Rattle.laws.proofs.First.{first_is, first_found}
use Rattle.theory.specs.Task.{Tasks, belongs}
use Rattle.theory.specs.Search.{or_one, times, lcm, lcm_to}
use Rattle.multiple.specs.Limited.{within_limit}

-- ---- one gap

-- `multiple` is so many times the base, and of fewer times none is a multiple of the gap
pub record Stepped (base gap multiple : ℕ) : Type 0 where
  pub count : ℕ
  pub some : 1 ≤ count
  pub is : multiple ≡ count * base
  pub none : (i : ℕ) → 1 ≤ i → i < count → ¬ (i * base % gap ≡ 0)

-- the theory's search finds a multiple of the gap, after at least one step
times_is : (base gap : ℕ) → 1 ≤ gap → (1 ≤ times base gap) × (times base gap * base % gap ≡ 0)
unfolding IsFirst times
times_is base gap h = go (first (λ k. eqb (k * base % gap) 0) 1 gap) (first_is (λ k. eqb (k * base % gap) 0) 1 gap)
  where
    go : (o : Found) → IsFirst (λ k. eqb (k * base % gap) 0) 1 gap o → (1 ≤ or_one o) × (or_one o * base % gap ≡ 0)
    go nobody f = absurd (T_not (eqb (gap * base % gap) 0) (f gap h (omega arith)) (eqb_of (gap * base % gap) 0 (mul-mod_right gap base)))
    go (at k) f = (f.0, eqb→eq (k * base % gap) 0 f.2)

module _ (base gap : ℕ) where
  pub stepped_first : Stepped base gap base
  stepped_first = record { count = 1; some = omega arith; is = omega arith; none = λ i a b. absurd (omega arith) }

  module _ (multiple : ℕ) (s : Stepped base gap multiple) where
    pub stepped_more : ¬ (multiple % gap ≡ 0) → Stepped base gap (multiple + base)
    stepped_more n = record {
      count = suc s.count;
      some = omega arith;
      is = omega (arith, s.is);
      none = λ i a b. elim (last_or_before i s.count b) [
        | inl e ↦ λ z. n (ap (λ x. x % gap) (s.is ∙ ap (λ x. x * base) (sym e)) ∙ z)
        | inr l ↦ s.none i a l
      ];
    }

    module _ (some-gap : 1 ≤ gap) where
      pub stepped_below : multiple ≤ lcm base gap
      stepped_below = elim (le_or_lt s.count (times base gap)) [
        | inl h ↦ omega (arith, s.is, mul-le-mul_right base h)
        | inr h ↦ absurd (s.none (times base gap) (times_is base gap some-gap).0 h (times_is base gap some-gap).1)
      ]

      pub stepped_found : multiple % gap ≡ 0 → multiple ≡ lcm base gap
      unfolding times
      stepped_found z =
          s.is
          ∙ ap (λ o. or_one o * base)
          (sym
          (first_found (λ k. eqb (k * base % gap) 0) 1 gap s.count s.some
          (elim (le_or_lt s.count gap) [ inl h ↦ omega arith | inr h ↦ absurd (s.none gap some-gap h (mul-mod_right gap base)) ])
          (eqb_of (s.count * base % gap) 0 (ap (λ x. x % gap) (sym s.is) ∙ z))
          (λ i a b. neqb_of (i * base % gap) 0 (s.none i a b))))

-- ---- up to the limit

-- what `within_limit` says
limit_cases : (L : ℕ) → ((L ≤ 1000000) × (within_limit L ≡ Some L)) ⊎ ((1000000 < L) × (within_limit L ≡ None))
limit_cases L = elim (leb_tells L 1000000) [
  | inl h ↦ inl (h.1, rw h.0 refl)
  | inr h ↦ inr (h.1, rw h.0 refl)
]

pub within_is : (L : ℕ) → L ≤ 1000000 → Some L ≡ within_limit L
within_is L l = elim (limit_cases L) [ inl h ↦ sym h.1 | inr h ↦ absurd (omega (arith, h.0)) ]

pub past_is : (L : ℕ) → 1000000 < L → None ≡ within_limit L
past_is L l = elim (limit_cases L) [ inl h ↦ absurd (omega (arith, h.0)) | inr h ↦ sym h.1 ]

pub within_said : (L m : ℕ) → Some m ≡ within_limit L → (m ≡ L) × (L ≤ 1000000)
within_said L m e = elim (limit_cases L) [
  | inl h ↦ (let f : Some m ≡ Some L = e ∙ h.1 in cc, h.0)
  | inr h ↦ let f : Some m ≡ None = e ∙ h.1 in absurd (cc)
]

pub past_said : (L : ℕ) → None ≡ within_limit L → 1000000 < L
past_said L e = elim (limit_cases L) [
  | inl h ↦ let f : None ≡ Some L = e ∙ h.1 in absurd (cc)
  | inr h ↦ h.0
]

-- ---- task by task

module _ (ts : Tasks) (q P : ℕ) where
  pub multiple_none : lcm_to ts q P 0 ≡ P
  unfolding lcm_to
  multiple_none = refl

  pub multiple_own : (m : ℕ) → (ts.task m).queue ≡ q → lcm_to ts q P (suc m) ≡ lcm (lcm_to ts q P m) (ts.task m).gap
  unfolding lcm_to
  multiple_own m e = pick_yes (belongs ts q m) _ _ (eqb_of (ts.task m).queue q e)

  pub multiple_other : (m : ℕ) → ¬ ((ts.task m).queue ≡ q) → lcm_to ts q P (suc m) ≡ lcm_to ts q P m
  unfolding lcm_to
  multiple_other m n = pick_no (belongs ts q m) _ _ (neqb_of (ts.task m).queue q n)

  -- more tasks have no smaller multiple
  pub multiple_grows : ((i : ℕ) → i < ts.number → 1 ≤ (ts.task i).gap) → (m k : ℕ) → m + k ≤ ts.number → lcm_to ts q P m ≤ lcm_to ts q P (m + k)
  multiple_grows h m zero l = omega (arith, ap (lcm_to ts q P) {x = m + 0} {y = m} (omega arith))
  multiple_grows h m (suc k) l =
      let e : m + suc k ≡ suc (m + k) = omega arith in
      let L = lcm_to ts q P (m + k) in
      let g = (ts.task (m + k)).gap in
      let r = multiple_grows h m k (omega arith) in
      elim (either (belongs ts q (m + k))) [
        | inl y ↦ omega (
          arith,
          ap (lcm_to ts q P) e,
          multiple_own (m + k) (eqb→eq (ts.task (m + k)).queue q y),
          stepped_below L g L (stepped_first L g) (h (m + k) (omega arith)),
        )
        | inr n ↦ omega (arith, ap (lcm_to ts q P) e, multiple_other (m + k) (λ f. T_not (belongs ts q (m + k)) n (eqb_of (ts.task (m + k)).queue q f)))
      ]
