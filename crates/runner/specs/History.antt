-- Many steps from the fresh state: what they are given, when all are accepted, and that they follow the theory.
use Rattle.std.specs.Prelude.{◌≡◌, Bool, ◌&&◌, List, ℕ, zero, suc, ◌^◌, ◌≤◌, ◌<◌, T, ltb}
use Rattle.laws.specs.Found.{nobody, found}
use Rattle.laws.specs.Bits.{in_set}
use Rattle.theory.specs.Grants.{Stream}
use Rattle.theory.specs.Tree.{Position, grant}
use Rattle.theory.specs.Guards.{top, walk}
use Rattle.theory.specs.Job.{Job}
use Rattle.theory.specs.Steps.{Service, released, edf, jobs, late}
use Rattle.table.specs.declared.Table.{Table}
use Rattle.table.specs.Table.{tree_of, tasks_of}
use Rattle.table.specs.Rules.{fine}
use Rattle.runner.specs.declared.State.{State}
use Rattle.runner.specs.declared.StepAnswer.{StepAnswer}
use Rattle.runner.specs.State.{position_of, job_at, Lawful, fresh_answer}
use Rattle.runner.specs.Step.{value_at, step_answer}

-- ---- the steps

-- Step n is given the values of the variables and the set of released tasks, each in its type's range.
pub record Inputs (values : ℕ → List ℕ) (sets : ℕ → ℕ) : Type 0 where
  pub value : (n i : ℕ) → value_at (values n) i ≤ top
  pub set : (n : ℕ) → sets n < 2 ^ 32

-- The state that step n is given: the fresh one, then what the step before hands back.
unfoldable pub state_at : Table → (ℕ → List ℕ) → (ℕ → ℕ) → ℕ → State
state_at t values sets zero = (fresh_answer t).state
state_at t values sets (suc n) = (step_answer t (state_at t values sets n) (values n) (sets n)).state

-- What step n answers.
abbrev pub answer_at : Table → (ℕ → List ℕ) → (ℕ → ℕ) → ℕ → StepAnswer
answer_at t values sets n = step_answer t (state_at t values sets n) (values n) (sets n)

-- The fresh state and the first N steps are accepted.
pub record History (t : Table) (values : ℕ → List ℕ) (sets : ℕ → ℕ) (N : ℕ) : Type 0 where
  pub start : (fresh_answer t).refusal ≡ fine
  pub step : (n : ℕ) → n < N → (answer_at t values sets n).refusal ≡ fine

-- ---- the same in the theory

-- The walk by the values, and the queue that it grants each tick to.
abbrev pub walked : Table → (ℕ → List ℕ) → ℕ → Position
walked t values = walk (tree_of t) (λ n. value_at (values n))

abbrev pub granted : Table → (ℕ → List ℕ) → Stream
granted t values n = grant (tree_of t) (walked t values n)

abbrev pub releases : (ℕ → ℕ) → ℕ → ℕ → Bool
releases sets n = in_set (sets n)

-- Earliest deadline first over those grants, and the jobs before tick n.
abbrev pub service : Table → (ℕ → List ℕ) → Service
service t values = edf (tasks_of t) (granted t values)

abbrev pub jobs_before : Table → (ℕ → List ℕ) → (ℕ → ℕ) → ℕ → ℕ → Job
jobs_before t values sets = jobs (tasks_of t) (releases sets) (service t values)

-- Task i is in the table, and its since before tick n has reached the gap.
abbrev pub Ready : Table → (ℕ → List ℕ) → (ℕ → ℕ) → ℕ → ℕ → Type 0
Ready t values sets n i = (i < t.tasks) × (((tasks_of t).task i).gap ≤ (jobs_before t values sets n i).since)

-- N steps obey the theory: the place is the walk's, the jobs are the theory's, each step grants the walk's queue, serves whom
-- earliest deadline first serves and names late whom the theory names late; and only what is ready is released.
pub record Obeys (t : Table) (values : ℕ → List ℕ) (sets : ℕ → ℕ) (N : ℕ) : Type 0 where
  pub lawful : (n : ℕ) → n ≤ N → Lawful t (state_at t values sets n)
  pub place : (n : ℕ) → n ≤ N → position_of (state_at t values sets n) ≡ walked t values n
  pub job : (n i : ℕ) → n ≤ N → i < t.tasks → job_at (state_at t values sets n) i ≡ jobs_before t values sets n i
  pub queue : (n : ℕ) → n < N → (answer_at t values sets n).queue ≡ granted t values n
  pub serves : (n : ℕ) → n < N
      → found (answer_at t values sets n).served (answer_at t values sets n).task nobody ≡ service t values n (released (tasks_of t) (releases sets n) (jobs_before t values sets n))
  pub names_late : (n i : ℕ) → n < N → in_set (answer_at t values sets n).late i ≡ (ltb i t.tasks && late (tasks_of t) (releases sets) (service t values) n i)
  pub ready : (n i : ℕ) → n < N → T (releases sets n i) → Ready t values sets n i

-- ---- from the theory to steps

-- Steps that are all accepted, whose values lead along a walk of the theory and whose sets are its releases.
pub record Reached (t : Table) (values : ℕ → ℕ → ℕ) (r : ℕ → ℕ → Bool) : Type 0 where
  pub lists : ℕ → List ℕ
  pub sets : ℕ → ℕ
  pub inputs : Inputs lists sets
  pub history : (N : ℕ) → History t lists sets N
  pub walks : walked t lists ≡ walk (tree_of t) values
  pub releases_are : releases sets ≡ r
