-- The search finds the least common multiple: stepping through the multiples of L it stops at the first that b divides, and what remains of another common multiple would be a smaller one. Assumes nothing.
use mathlib.Core.Path.{◌≡◌, refl, sym, ap, ◌∙◌, subst}
use mathlib.Core.Bool.{not}
use mathlib.Core.Logic.{inl, inr}
use Prim.Native.Nat.{ℕ, zero, suc, ◌+◌, ◌*◌, ◌/◌, ◌%◌, ◌≤◌, ◌<◌}
use native.Mathlib.Nat.{mul-pos, mod-lt, div-add-mod', mul-mod_right, mul-mod_left, mul-add-mod_self_right}
use native.Mathlib.Omega.{arith}
use lib.Dec.{T, T_not, eqb, eqb→eq}
use Rattle.laws.specs.Found.{Found, nobody, at, first, IsFirst}
use Rattle.laws.proofs.Test.{either, le_or_lt, last_or_before, eqb_of, pick_yes, pick_no}
use Rattle.laws.proofs.First.{first_is}
use Rattle.theory.specs.Task.{Tasks, belongs, Each}
use Rattle.theory.specs.Verdict.{Multiple, CommonMultiple}
use Rattle.theory.specs.Search.{or_one, times, lcm, lcm_to, lcm_of}

multiple_of_multiple : (M L b : ℕ) → Multiple M L → Multiple L b → Multiple M b
multiple_of_multiple M L b (j, f) (k, e) = (j * k, f ∙ rw e (omega arith))

-- ---- the least common multiple of two numbers

module _ (L b : ℕ) (L-some : 0 < L) (b-some : 0 < b) where
  times_is : (1 ≤ times L b) × (times L b * L % b ≡ 0) × ((i : ℕ) → 1 ≤ i → i < times L b → ¬ (i * L % b ≡ 0))
  unfolding IsFirst times
  times_is = go (first (λ k. eqb (k * L % b) 0) 1 b) (first_is (λ k. eqb (k * L % b) 0) 1 b)
    where
      go : (o : Found) → IsFirst (λ k. eqb (k * L % b) 0) 1 b o → (1 ≤ or_one o) × (or_one o * L % b ≡ 0) × ((i : ℕ) → 1 ≤ i → i < or_one o → ¬ (i * L % b ≡ 0))
      go nobody h = absurd (T_not (eqb (b * L % b) 0) (h b b-some (omega arith)) (eqb_of (b * L % b) 0 (mul-mod_right b L)))
      go (at k) h = (h.0, eqb→eq (k * L % b) 0 h.2, λ i l u e. T_not (eqb (i * L % b) 0) (h.3 i l u) (eqb_of (i * L % b) 0 e))

  lcm_some : 0 < lcm L b
  lcm_some = mul-pos times_is.0 L-some

  lcm_left : Multiple (lcm L b) L
  lcm_left = (times L b, refl)

  lcm_right : Multiple (lcm L b) b
  lcm_right = (lcm L b / b, omega (arith, div-add-mod' (lcm L b) b, times_is.1))

  -- M is k times L; k is a multiple of `times`, since the remainder would be a smaller one
  lcm_divides : (M : ℕ) → Multiple M L → Multiple M b → Multiple M (lcm L b)
  lcm_divides M (k, e) (m, c) =
      let t = times L b in
      let u : M ≡ k / t * (t * L) + k % t * L = e ∙ omega (arith, ap (λ x. x * L) (div-add-mod' k t)) in
      elim (le_or_lt (k % t) 0) [
        | inl z ↦ (k / t, u ∙ omega (arith, ap (λ x. x * L) {x = k % t} {y = 0} (omega arith)))
        | inr z ↦
            let (j, f) = lcm_right in
            let v : M ≡ k / t * j * b + k % t * L = u ∙ omega (arith, ap (λ x. k / t * x) f) in
            let r : k % t * L % b ≡ 0 = sym (mul-add-mod_self_right (k / t * j) b (k % t * L)) ∙ ap (λ x. x % b) (sym v ∙ c) ∙ mul-mod_left m b in
            absurd (times_is.2 (k % t) z (mod-lt k times_is.0) r)
      ]

-- ---- over a queue's tasks, one by one

-- the first m tasks
abbrev up_to : Tasks → ℕ → Tasks
up_to ts m = record { number = m; task = ts.task }

module _ (ts : Tasks) (q P m L : ℕ) (ih : CommonMultiple (up_to ts m) q P L) where
  with_own : 0 < (ts.task m).gap → T (belongs ts q m) → CommonMultiple (up_to ts (suc m)) q P (lcm L (ts.task m).gap)
  with_own h y =
      let b = (ts.task m).gap in
      let left = lcm_left L b ih.some h in
      record {
        some = lcm_some L b ih.some h;
        of_period = multiple_of_multiple (lcm L b) L P left ih.of_period;
        of_gaps = λ i l z. elim (last_or_before i m l) [
          | inl e ↦ rw e (lcm_right L b ih.some h)
          | inr u ↦ multiple_of_multiple (lcm L b) L (ts.task i).gap left (ih.of_gaps i u z)
        ];
        divides = λ M c d. lcm_divides L b ih.some h M (ih.divides M c (λ i l z. d i (omega arith) z)) (d m (omega arith) y);
      }

  with_other : T (not (belongs ts q m)) → CommonMultiple (up_to ts (suc m)) q P L
  with_other n = record {
    some = ih.some;
    of_period = ih.of_period;
    of_gaps = λ i l z. elim (last_or_before i m l) [ inl e ↦ absurd (T_not (belongs ts q m) n (rw e at z)) | inr u ↦ ih.of_gaps i u z ];
    divides = λ M c d. ih.divides M c (λ i l z. d i (omega arith) z);
  }

lcm_to_is : (ts : Tasks) (q P m : ℕ) → 0 < P → Each (up_to ts m) q (λ i. 0 < (ts.task i).gap) → CommonMultiple (up_to ts m) q P (lcm_to ts q P m)
unfolding lcm_to
lcm_to_is ts q P zero p h = record { some = p; of_period = (1, omega arith); of_gaps = λ i l y. absurd (omega arith); divides = λ M a b. a }
lcm_to_is ts q P (suc m) p h =
    let L = lcm_to ts q P m in
    let ih = lcm_to_is ts q P m p (λ i l y. h i (omega arith) y) in
    elim (either (belongs ts q m)) [
      | inl y ↦ subst (CommonMultiple (up_to ts (suc m)) q P) (sym (pick_yes (belongs ts q m) (lcm L (ts.task m).gap) L y)) (with_own ts q P m L ih (h m (omega arith) y) y)
      | inr n ↦ subst (CommonMultiple (up_to ts (suc m)) q P) (sym (pick_no (belongs ts q m) (lcm L (ts.task m).gap) L n)) (with_other ts q P m L ih n)
    ]

pub lcm_of_is : (ts : Tasks) (q P : ℕ) → 0 < P → Each ts q (λ i. 0 < (ts.task i).gap) → CommonMultiple ts q P (lcm_of ts q P)
lcm_of_is ts q P = lcm_to_is ts q P ts.number

-- ---- at most one number is it

-- no positive common multiple is smaller
pub least_multiple : (ts : Tasks) (q P L : ℕ) → CommonMultiple ts q P L
    → (M : ℕ) → 1 ≤ M → Multiple M P → Each ts q (λ i. Multiple M (ts.task i).gap) → L ≤ M
least_multiple ts q P L h M l a b = go (h.divides M a b)
  where
    go : Multiple M L → L ≤ M
    go (zero, e) = absurd (omega arith)
    go (suc k, e) = omega arith

pub multiple_unique : (ts : Tasks) (q P L M : ℕ) → CommonMultiple ts q P L → CommonMultiple ts q P M → L ≡ M
multiple_unique ts q P L M a b = omega (arith, least_multiple ts q P L a M b.some b.of_period b.of_gaps, least_multiple ts q P M b L a.some a.of_period a.of_gaps)
