-- Tasks, and the demand of a queue's tasks in a window.
use Rattle.std.specs.Prelude.{Bool, ℕ, ◌+◌, ◌-◌, ◌*◌, ◌/◌, ◌≤◌, ◌<◌, T, eqb, ltb}
use Rattle.laws.specs.Test.{pick}
use Rattle.laws.specs.Sum.{sum}

-- The rules' C, D and T are `work`, `deadline` and `gap`.
pub record Task : Type 0 where
  pub queue : ℕ
  pub work : ℕ
  pub deadline : ℕ
  pub gap : ℕ

-- 1 <= C <= D <= T.
pub record LawfulTask (k : Task) : Type 0 where
  pub some_work : 1 ≤ k.work
  pub fits : k.work ≤ k.deadline
  pub constrained : k.deadline ≤ k.gap

-- Tasks are numbered from 0.
pub record Tasks : Type 0 where
  pub number : ℕ
  pub task : ℕ → Task

-- Task i is one of queue q's.
abbrev pub belongs : Tasks → ℕ → ℕ → Bool
belongs ts q i = eqb (ts.task i).queue q

-- Each of queue q's tasks has the property.
abbrev pub Each : Tasks → ℕ → (ℕ → Type 0) → Type 0
Each ts q A = (i : ℕ) → i < ts.number → T (belongs ts q i) → A i

-- The sum over queue q's tasks.
abbrev pub over : Tasks → ℕ → (ℕ → ℕ) → ℕ
over ts q f = sum (λ i. pick (belongs ts q i) (f i) 0) 0 ts.number

-- One task's demand: 0 for t < D, else C times (floor((t - D) / T) + 1).
abbrev pub demand_of : Task → ℕ → ℕ
demand_of k t = pick (ltb t k.deadline) 0 (k.work * ((t - k.deadline) / k.gap + 1))

abbrev pub demand : Tasks → ℕ → ℕ → ℕ
demand ts q t = over ts q (λ i. demand_of (ts.task i) t)
