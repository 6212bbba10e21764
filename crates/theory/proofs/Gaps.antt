-- How much work a window's releases bring: since grows by one a tick and every release takes a whole gap of it, so releases cannot bring more than the demand, and bring all of it where
-- the task is released at every chance. Assumes nothing.
use mathlib.Core.Path.{◌≡◌, refl, sym, ap, ◌∙◌}
use mathlib.Core.Bool.{Bool, not}
use mathlib.Core.Logic.{◌⊎◌, inl, inr}
use Prim.Native.Nat.{ℕ, zero, suc, ◌+◌, ◌-◌, ◌*◌, ◌/◌, ◌≤◌, ◌<◌, min}
use native.Mathlib.Nat.{le_refl, add-suc, mul-le-mul_left, le-div_iff_mul-le, div-eq_of_lt-le}
use native.Mathlib.Omega.{arith}
use lib.Dec.{T, T_not, leb, le→leb}
use lib.Arith.{lt→nleb}
use Rattle.laws.specs.Test.{pick, bit}
use Rattle.laws.specs.Sum.{sum}
use Rattle.laws.proofs.Test.{either, le_or_lt, pick_yes, pick_no, bit_yes, bit_no}
use Rattle.laws.proofs.Sum.{sum_split, sum_same, sum_zero, sum_one, sum_add, sum_scale}
use Rattle.theory.specs.Task.{Task, LawfulTask, Tasks, Each, over, demand_of, demand}
use Rattle.theory.specs.Steps.{Service, jobs, Accepted}
use Rattle.theory.proofs.Demand.{lawful_gap, demand_of_none, demand_of_some, over_same, over_le, over_sum}
use Rattle.theory.proofs.Backlog.{balance}

-- since n: the ticks since the last release before tick n, stopping at G; r n: whether tick n releases
pub record Gaps (G : ℕ) (since : ℕ → ℕ) (r : ℕ → Bool) : Type 0 where
  pub start : since 0 ≤ G
  pub next : (n : ℕ) → since (suc n) ≡ min G (pick (r n) 0 (since n) + 1)
  pub accepted : (n : ℕ) → T (r n) → G ≤ since n

-- ---- releases in a stretch of ticks

module _ (G : ℕ) (since : ℕ → ℕ) (r : ℕ → Bool) (G-some : 1 ≤ G) (gaps : Gaps G since r) where
  capped : (n : ℕ) → since n ≤ G
  capped zero = gaps.start
  capped (suc n) = omega (arith, gaps.next n)

  -- tick n could release and does not
  abbrev misses : ℕ → ℕ
  misses n = pick (r n) 0 (bit (leb G (since n)))

  since_grows : (n : ℕ) → since (suc n) + (G * bit (r n) + misses n) ≡ since n + 1
  since_grows n = elim (either (r n)) [
    | inl y ↦ rw (bit_yes (r n) y, pick_yes (r n) 0 (bit (leb G (since n))) y) (omega (arith, gaps.next n, gaps.accepted n y, capped n, pick_yes (r n) 0 (since n) y))
    | inr y ↦ rw (bit_no (r n) y, pick_no (r n) 0 (bit (leb G (since n))) y) (elim (le_or_lt G (since n)) [
      | inl z ↦ rw (bit_yes (leb G (since n)) (le→leb G (since n) z)) (omega (arith, gaps.next n, capped n, pick_no (r n) 0 (since n) y))
      | inr z ↦ rw (bit_no (leb G (since n)) (lt→nleb G (since n) z)) (omega (arith, gaps.next n, pick_no (r n) 0 (since n) y))
    ])
  ]

  since_balance : (s l : ℕ) → since (s + l) + (G * sum (λ n. bit (r n)) s l + sum misses s l) ≡ since s + l
  since_balance s l =
      omega (
        arith,
        balance since (λ n. 1) (λ n. G * bit (r n) + misses n) s l (λ i m. since_grows (s + i)),
        sum_one (λ n. 1) s l (λ i m. refl),
        sum_add (λ n. G * bit (r n)) misses s l,
        sum_scale G (λ n. bit (r n)) s l,
      )

  -- in l + 1 ticks
  pub gap_count : (s l : ℕ) → sum (λ n. bit (r n)) s (suc l) ≤ (l + G) / G
  gap_count s l = (le-div_iff_mul-le G-some).1 (omega (arith, capped s, rw (add-suc s l) at (since_balance s (suc l)), gaps.next (s + l)))

  -- released at every chance from tick s on
  pub gap_count_tight : (s : ℕ) → since s ≡ G → ((n : ℕ) → s ≤ n → G ≤ since n → T (r n)) → (l : ℕ) → sum (λ n. bit (r n)) s (suc l) ≡ (l + G) / G
  gap_count_tight s ready each l =
      let z = sum_zero misses s (suc l) (λ i m. none (s + i) (omega arith) (either (r (s + i)))) in
      let e = rw (add-suc s l) at (since_balance s (suc l)) in
      sym (div-eq_of_lt-le G (omega (arith, gaps.next (s + l))) (omega (arith, capped (suc (s + l)))))
    where
      none : (n : ℕ) → s ≤ n → T (r n) ⊎ T (not (r n)) → misses n ≡ 0
      none n l (inl y) = pick_yes (r n) 0 _ y
      none n l (inr y) = pick_no (r n) 0 _ y ∙ elim (le_or_lt G (since n)) [ inl z ↦ absurd (T_not (r n) y (each n l z)) | inr z ↦ bit_no (leb G (since n)) (lt→nleb G (since n) z) ]

-- ---- the work that they bring

-- what a release at tick n brings of the work that is due by d
abbrev pub brings : Task → (ℕ → Bool) → ℕ → ℕ → ℕ
brings k r d n = pick (leb (n + k.deadline) d) (k.work * bit (r n)) 0

module _ (k : Task) (h : LawfulTask k) (since : ℕ → ℕ) (r : ℕ → Bool) (gaps : Gaps k.gap since r) (d s a : ℕ) (e : s + a ≡ d) where
  work_none : a < k.deadline → sum (brings k r d) s a ≡ 0
  work_none l = sum_zero (brings k r d) s a (λ i m. pick_no (leb (s + i + k.deadline) d) _ _ (lt→nleb (s + i + k.deadline) d (omega arith)))

  work_some : k.deadline ≤ a → sum (brings k r d) s a ≡ k.work * sum (λ n. bit (r n)) s (suc (a - k.deadline))
  work_some l =
      let b = suc (a - k.deadline) in
      let f : b + (k.deadline - 1) ≡ a = omega arith in
      omega (
        arith,
        rw f at (sum_split (brings k r d) s b (k.deadline - 1)),
        sum_same (brings k r d) (λ n. k.work * bit (r n)) s s b (λ i m. pick_yes (leb (s + i + k.deadline) d) _ _ (le→leb (s + i + k.deadline) d (omega arith))),
        sum_zero (brings k r d) (s + b) (k.deadline - 1) (λ i m. pick_no (leb (s + b + i + k.deadline) d) _ _ (lt→nleb (s + b + i + k.deadline) d (omega arith))),
        sum_scale k.work (λ n. bit (r n)) s b,
      )

  pub work_le : sum (brings k r d) s a ≤ demand_of k a
  work_le = elim (le_or_lt k.deadline a) [
    | inl l ↦ rw (work_some l, demand_of_some k h a l) (mul-le-mul_left k.work (gap_count k.gap since r (lawful_gap k h) gaps s (a - k.deadline)))
    | inr l ↦ rw (work_none l, demand_of_none k a l) (omega arith)
  ]

  pub work_tight : since s ≡ k.gap → ((n : ℕ) → s ≤ n → k.gap ≤ since n → T (r n)) → sum (brings k r d) s a ≡ demand_of k a
  work_tight ready each = elim (le_or_lt k.deadline a) [
    | inl l ↦ rw (work_some l, demand_of_some k h a l) (ap (λ x. k.work * x) (gap_count_tight k.gap since r (lawful_gap k h) gaps s ready each (a - k.deadline)))
    | inr l ↦ work_none l ∙ sym (demand_of_none k a l)
  ]

-- ---- over a queue's tasks

-- what tick n brings of queue q's work that is due by d; r n i says whether it releases task i
abbrev pub arrivals : Tasks → ℕ → (ℕ → ℕ → Bool) → ℕ → ℕ → ℕ
arrivals ts q r d n = over ts q (λ i. brings (ts.task i) (λ m. r m i) d n)

module _ (ts : Tasks) (q : ℕ) (r : ℕ → ℕ → Bool) (o : Service) (lawful : Each ts q (λ i. LawfulTask (ts.task i))) (accepted : Accepted ts r o) (d s a : ℕ) (e : s + a ≡ d) where
  -- what task i brings in the window
  abbrev brought : ℕ → ℕ
  brought i = sum (brings (ts.task i) (λ n. r n i) d) s a

  arrivals_sum : sum (arrivals ts q r d) s a ≡ over ts q brought
  arrivals_sum = over_sum ts q (λ i. brings (ts.task i) (λ n. r n i) d) s a

  gaps : (i : ℕ) → Gaps (ts.task i).gap (λ n. (jobs ts r o n i).since) (λ n. r n i)
  unfolding jobs
  gaps i = record { start = le_refl (ts.task i).gap; next = λ n. refl; accepted = λ n t. (accepted n i t).1 }

  pub arrivals_le : sum (arrivals ts q r d) s a ≤ demand ts q a
  arrivals_le = rw arrivals_sum (over_le ts q brought (λ i. demand_of (ts.task i) a) (λ i l y. work_le (ts.task i) (lawful i l y) (λ n. (jobs ts r o n i).since) (λ n. r n i) (gaps i) d s a e))

  pub arrivals_tight : Each ts q (λ i. (jobs ts r o s i).since ≡ (ts.task i).gap) → Each ts q (λ i. (n : ℕ) → s ≤ n → (ts.task i).gap ≤ (jobs ts r o n i).since → T (r n i))
      → sum (arrivals ts q r d) s a ≡ demand ts q a
  arrivals_tight ready each =
      arrivals_sum
      ∙ over_same ts q brought (λ i. demand_of (ts.task i) a)
      (λ i l y. work_tight (ts.task i) (lawful i l y) (λ n. (jobs ts r o n i).since) (λ n. r n i) (gaps i) d s a e (ready i l y) (each i l y))
