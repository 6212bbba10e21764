-- Laws of demand: n gaps bring n jobs more, so demand adds over a common multiple of the gaps; and sums over a queue's tasks are compared task by task. Assumes nothing.
use mathlib.Core.Path.{◌≡◌, refl, sym, ap, ◌∙◌}
use mathlib.Core.Bool.{Bool, true, false, not}
use mathlib.Core.Logic.{◌⊎◌, inl, inr}
use Prim.Native.Nat.{ℕ, ◌+◌, ◌-◌, ◌*◌, ◌/◌, ◌≤◌, ◌<◌}
use native.Mathlib.Nat.{le_refl, zero-add, add-div_right, add-mul-div_right, div-eq_of_lt}
use native.Mathlib.Omega.{arith}
use lib.Dec.{T, eqb, ltb, lt→ltb}
use lib.Arith.{le→nltb}
use Rattle.laws.specs.Test.{pick}
use Rattle.laws.specs.Sum.{sum}
use Rattle.laws.proofs.Test.{le_or_lt, pick_yes, pick_no, pick_same, pick_some}
use Rattle.laws.proofs.Sum.{sum_same, sum_le, sum_add, sum_zero, sum_swap, sum_pick, sum_change, sum_some, term_le₀}
use Rattle.theory.specs.Task.{Task, LawfulTask, Tasks, belongs, Each, over, demand_of, demand}
use Rattle.theory.specs.Verdict.{Multiple}

-- ---- one task

pub lawful_gap : (k : Task) → LawfulTask k → 0 < k.gap
lawful_gap k h = omega arith

pub demand_of_none : (k : Task) (t : ℕ) → t < k.deadline → demand_of k t ≡ 0
demand_of_none k t l = pick_yes (ltb t k.deadline) _ _ (lt→ltb t k.deadline l)

pub demand_of_some : (k : Task) → LawfulTask k → (t : ℕ) → k.deadline ≤ t → demand_of k t ≡ k.work * ((t - k.deadline + k.gap) / k.gap)
demand_of_some k h t l = pick_no (ltb t k.deadline) _ _ (le→nltb t k.deadline l) ∙ rw (add-div_right (t - k.deadline) (lawful_gap k h))

-- one quotient, since the deadline is at most the gap
demand_of_is : (k : Task) → LawfulTask k → (t : ℕ) → demand_of k t ≡ k.work * ((t + (k.gap - k.deadline)) / k.gap)
demand_of_is k h t = elim (le_or_lt k.deadline t) [
  | inl l ↦
      let e : t + (k.gap - k.deadline) ≡ t - k.deadline + k.gap = omega arith in
      rw e (demand_of_some k h t l)
  | inr l ↦ demand_of_none k t l ∙ rw (div-eq_of_lt {n = t + (k.gap - k.deadline)} {m = k.gap} (omega arith)) (omega arith)
]

-- n gaps later, n jobs more
pub demand_of_more : (k : Task) → LawfulTask k → (n t : ℕ) → demand_of k (t + n * k.gap) ≡ demand_of k t + k.work * n
demand_of_more k h n t =
    let e : t + n * k.gap + (k.gap - k.deadline) ≡ (t + (k.gap - k.deadline)) + n * k.gap = omega arith in
    demand_of_is k h (t + n * k.gap) ∙ rw (e, add-mul-div_right (t + (k.gap - k.deadline)) n (lawful_gap k h), demand_of_is k h t) (omega arith)

demand_of_zero : (k : Task) → LawfulTask k → demand_of k 0 ≡ 0
demand_of_zero k h = demand_of_none k 0 (omega arith)

demand_of_adds : (k : Task) → LawfulTask k → (M t : ℕ) → Multiple M k.gap → demand_of k (t + M) ≡ demand_of k t + demand_of k M
demand_of_adds k h M t (n, e) = rw e (omega (arith, demand_of_more k h n t, rw (zero-add (n * k.gap)) at (demand_of_more k h n 0), demand_of_zero k h))

-- ---- sums over a queue's tasks

pick_le_where : (b : Bool) (x y : ℕ) → (T b → x ≤ y) → pick b x 0 ≤ pick b y 0
pick_le_where true x y e = e tt
pick_le_where false x y e = le_refl 0

pick_add : (b : Bool) (x y : ℕ) → pick b (x + y) 0 ≡ pick b x 0 + pick b y 0
pick_add true x y = refl
pick_add false x y = refl

module _ (ts : Tasks) (q : ℕ) where
  -- a task's part in the sum
  abbrev part : (ℕ → ℕ) → ℕ → ℕ
  part f i = pick (belongs ts q i) (f i) 0

  pub over_le : (f g : ℕ → ℕ) → Each ts q (λ i. f i ≤ g i) → over ts q f ≤ over ts q g
  over_le f g e = sum_le (part f) (part g) 0 0 ts.number (λ i l. rw (zero-add i) (pick_le_where (belongs ts q i) (f i) (g i) (e i l)))

  pub over_same : (f g : ℕ → ℕ) → Each ts q (λ i. f i ≡ g i) → over ts q f ≡ over ts q g
  over_same f g e = omega (arith, over_le f g (λ i l y. omega (arith, e i l y)), over_le g f (λ i l y. omega (arith, e i l y)))

  pub over_zero : (f : ℕ → ℕ) → Each ts q (λ i. f i ≡ 0) → over ts q f ≡ 0
  over_zero f e = omega (arith, over_le f (λ i. 0) (λ i l y. omega (arith, e i l y)), sum_zero (part (λ i. 0)) 0 ts.number (λ i l. pick_same (belongs ts q (0 + i)) 0))

  pub over_add : (f g : ℕ → ℕ) → over ts q (λ i. f i + g i) ≡ over ts q f + over ts q g
  over_add f g =
      sum_same (part (λ i. f i + g i)) (λ i. part f i + part g i) 0 0 ts.number (λ i l. pick_add (belongs ts q (0 + i)) (f (0 + i)) (g (0 + i)))
      ∙ sum_add (part f) (part g) 0 ts.number

  -- a sum over ticks of sums over tasks
  pub over_sum : (f : ℕ → ℕ → ℕ) (s t : ℕ) → sum (λ n. over ts q (λ i. f i n)) s t ≡ over ts q (λ i. sum (f i) s t)
  over_sum f s t =
      sym (sum_swap (λ i n. part (λ i. f i n) i) 0 ts.number s t)
      ∙ sum_same (λ i. sum (λ n. part (λ i. f i n) i) s t) (part (λ i. sum (f i) s t)) 0 0 ts.number (λ i l. sum_pick (belongs ts q (0 + i)) (f (0 + i)) s t)

  -- two sums that differ at one task only
  pub over_change : (f g : ℕ → ℕ) (j : ℕ) → j < ts.number → ((i : ℕ) → ¬ (i ≡ j) → f i ≡ g i) → over ts q f + part g j ≡ over ts q g + part f j
  over_change f g j l e =
      rw (zero-add j) at (sum_change (part f) (part g) 0 ts.number j l (λ i m d. rw (zero-add i) (ap (λ x. pick (belongs ts q i) x 0) (e i d))))

  -- a sum above 0 has a task's part above 0
  pub over_some : (f : ℕ → ℕ) → 0 < over ts q f → (i : ℕ) × (i < ts.number) × T (belongs ts q i) × (0 < f i)
  over_some f h =
      let (i, l, p) = sum_some (part f) 0 ts.number h in
      let (y, z) = pick_some (belongs ts q i) (f i) (rw (zero-add i) at p) in
      (i, l, y, z)

  -- a task's part is at most the sum
  pub over_term : (f : ℕ → ℕ) → Each ts q (λ i. f i ≤ over ts q f)
  over_term f i l y = omega (arith, term_le₀ (part f) ts.number i l, pick_yes (belongs ts q i) (f i) 0 y)

-- ---- the demand of a queue

module _ (ts : Tasks) (q : ℕ) (lawful : Each ts q (λ i. LawfulTask (ts.task i))) where
  pub demand_zero : demand ts q 0 ≡ 0
  demand_zero = over_zero ts q (λ i. demand_of (ts.task i) 0) (λ i l y. demand_of_zero (ts.task i) (lawful i l y))

  pub demand_adds : (M t : ℕ) → Each ts q (λ i. Multiple M (ts.task i).gap) → demand ts q (t + M) ≡ demand ts q t + demand ts q M
  demand_adds M t e =
      over_same ts q (λ i. demand_of (ts.task i) (t + M)) (λ i. demand_of (ts.task i) t + demand_of (ts.task i) M)
      (λ i l y. demand_of_adds (ts.task i) (lawful i l y) M t (e i l y))
      ∙ over_add ts q (λ i. demand_of (ts.task i) t) (λ i. demand_of (ts.task i) M)

-- demand depends on the queue's own tasks only: each number has the same task in both, or a task of another queue in both
pub demand_same_tasks : (ts ts' : Tasks) (q t : ℕ) → ts.number ≡ ts'.number
    → ((i : ℕ) → i < ts.number → (ts.task i ≡ ts'.task i) ⊎ (T (not (belongs ts q i)) × T (not (belongs ts' q i)))) → demand ts q t ≡ demand ts' q t
demand_same_tasks ts ts' q t e h = sum_same (term ts) (term ts') 0 0 ts.number (λ i l. rw (zero-add i) (go i (h i l))) ∙ ap (sum (term ts') 0) e
  where
    term : Tasks → ℕ → ℕ
    term us i = pick (belongs us q i) (demand_of (us.task i) t) 0

    go : (i : ℕ) → (ts.task i ≡ ts'.task i) ⊎ (T (not (belongs ts q i)) × T (not (belongs ts' q i))) → term ts i ≡ term ts' i
    go i (inl f) = ap (λ k. pick (eqb k.queue q) (demand_of k t) 0) f
    go i (inr n) = pick_no (belongs ts q i) _ 0 n.0 ∙ sym (pick_no (belongs ts' q i) _ 0 n.1)
