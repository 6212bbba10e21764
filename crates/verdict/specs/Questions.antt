-- Demand, verdict and wait of a judged table: their refusals in order, and what an answer says.
use Rattle.std.specs.Prelude.{◌≡◌, false, not, ℕ, eqb, ltb}
use Rattle.theory.specs.Grants.{is}
use Rattle.theory.specs.Tree.{grants, CycleLeast}
use Rattle.theory.specs.Task.{demand}
use Rattle.theory.specs.Verdict.{Wait}
use Rattle.theory.specs.Search.{lcm_of}
use Rattle.table.specs.declared.Table.{Table}
use Rattle.table.specs.declared.Refusal.{Refusal}
use Rattle.table.specs.Table.{tree_of, tasks_of}
use Rattle.table.specs.Rules.{within}
use Rattle.bounds.specs.declared.TicksAnswer.{TicksAnswer}
use Rattle.bounds.specs.Questions.{also, queue_refusal, window_refusal, Answer}
use Rattle.search.specs.declared.VerdictAnswer.{VerdictAnswer}
use Rattle.search.specs.Answers.{Zeros, Verdict}

-- ---- refusals

-- After the table's and QUEUE, HORIZON: the least common multiple of P and of the gaps of the queue's tasks is above 1,000,000.
unfoldable pub horizon_refusal : Table → ℕ → Refusal
horizon_refusal t q = also (queue_refusal t q) (ltb 1000000 (lcm_of (tasks_of t) q t.period)) 13

-- After the table's and QUEUE, AMOUNT: a wait for 0 or for more than 65,535 ticks.
unfoldable pub amount_refusal : Table → ℕ → ℕ → Refusal
amount_refusal t q c = also (queue_refusal t q) (not (within 1 65535 c)) 11

-- Then NEVER: the cycle least is 0, so some cycle grants the queue nothing.
unfoldable pub wait_refusal : Table → ℕ → ℕ → ℕ → Refusal
wait_refusal t q c cycle = also (amount_refusal t q c) (eqb cycle 0) 12

-- ---- answers

abbrev pub DemandAnswer : Table → ℕ → ℕ → TicksAnswer → Type 0
DemandAnswer t q w = Answer (window_refusal t q w) (λ m. demand (tasks_of t) q w ≡ m)

-- Refused, or the verdict; zeros beside a refusal.
pub record VerdictAnswers (t : Table) (q : ℕ) (a : VerdictAnswer) : Type 0 where
  pub refusal : a.refusal ≡ horizon_refusal t q
  pub says : (horizon_refusal t q).number ≡ 0 → Verdict t q a
  pub silent : ¬ ((horizon_refusal t q).number ≡ 0) → (a.meets ≡ false) × Zeros a

-- Refused, also by the cycle least of a queue that may be asked about, or the wait.
pub record WaitAnswer (t : Table) (q c : ℕ) (a : TicksAnswer) : Type 0 where
  pub cycle : ℕ
  pub cycle_least_law : (queue_refusal t q).number ≡ 0 → CycleLeast (tree_of t) (is q) cycle
  pub answer : Answer (wait_refusal t q c cycle) (Wait (grants (tree_of t)) (is q) c) a
