-- The runner's state: what it says of a position and of jobs, when it is lawful for a table, and the fresh one.
use Rattle.std.specs.Prelude.{◌≡◌, Bool, not, ◌&&◌, ◌||◌, ℕ, zero, suc, ◌+◌, ◌≤◌, ◌<◌, replicate, eqb, leb, ltb, Result, Ok, Err}
use Rattle.laws.specs.Test.{none}
use Rattle.theory.specs.Tree.{Position}
use Rattle.theory.specs.Task.{Task}
use Rattle.theory.specs.Job.{Job, fresh, LawfulJob}
use Rattle.table.specs.declared.Table.{Table}
use Rattle.table.specs.Table.{tree_of, tasks_of}
use Rattle.table.specs.Rules.{fine, judged}
use Rattle.table.specs.declared.refused.Refused.{Refused}
use Rattle.table.specs.Reasons.{as_refusal}
use Rattle.job.specs.Entry.{job_of, no_job}
use Rattle.jobs.specs.Entries.{job_in, row}
use Rattle.runner.specs.declared.State.{State}
use Rattle.runner.specs.declared.FreshAnswer.{FreshAnswer}

-- ---- what a state says

-- Task i's job, and the position.
abbrev pub job_at : State → ℕ → Job
job_at s = job_in s.jobs

abbrev pub position_of : State → Position
position_of s = record { location = s.location; done = s.done }

-- The state at a position with a job for each task.
abbrev pub state_of : Table → Position → (ℕ → Job) → State
state_of t p js = record { location = p.location; done = p.done; jobs = row t.tasks js }

-- ---- lawful

-- The location is in the table and not all its ticks are done; each task's job is lawful; the entries past the tasks are 0.
pub record Lawful (t : Table) (s : State) : Type 0 where
  pub location : s.location < t.locations
  pub done : s.done < (tree_of t).ticks s.location
  pub job : (i : ℕ) → i < t.tasks → LawfulJob ((tasks_of t).task i) (job_at s i)
  pub past : (i : ℕ) → t.tasks ≤ i → i < 32 → job_at s i ≡ job_of no_job

-- The same as a test, sentence by sentence; proofs/Agrees.antt shows that they agree.
abbrev pub is_idle : Job → Bool
is_idle j = eqb j.remaining 0 && eqb j.left 0

abbrev pub is_open : Task → Job → Bool
is_open k j = leb 1 j.remaining && (leb j.remaining k.work && (leb 1 j.left && eqb (j.since + j.left) k.deadline))

abbrev pub is_lawful_job : Task → Job → Bool
is_lawful_job k j = leb j.since k.gap && (is_idle j || is_open k j)

abbrev pub is_zero : Job → Bool
is_zero j = eqb j.since 0 && is_idle j

abbrev pub unlawful : Table → (ℕ → Job) → ℕ → Bool
unlawful t js i = not (is_lawful_job ((tasks_of t).task i) (js i))

abbrev pub left_over : ℕ → (ℕ → Job) → ℕ → Bool
left_over n js i = leb n i && not (is_zero (js i))

unfoldable pub is_lawful : Table → State → Bool
is_lawful t s =
    ltb s.location t.locations
    && (ltb s.done ((tree_of t).ticks s.location) && (none (unlawful t (job_at s)) t.tasks && none (left_over t.tasks (job_at s)) 32))

-- ---- fresh

-- At the root, no tick done, no work, and each task's since at its gap.
abbrev pub fresh_state : Table → State
fresh_state t = state_of t (record { location = 0; done = 0 }) (λ i. fresh ((tasks_of t).task i))

abbrev pub empty_state : State
empty_state = record { location = 0; done = 0; jobs = replicate 32 no_job }

-- The first where the refusal's number is 0, the second where something is refused.
abbrev pub unless : {A : Type 0} → ℕ → A → A → A
unless zero given refused = given
unless (suc n) given refused = refused

-- The fresh state, or all zeros beside the table's refusal.
unfoldable pub fresh_answer : Table → FreshAnswer
fresh_answer t = record { refusal = judged t; state = unless (judged t).number (fresh_state t) empty_state }

-- What C is handed for a result of `fresh`.
abbrev pub fresh_answered : Result State Refused → FreshAnswer
fresh_answered (Ok s) = record { refusal = fine; state = s }
fresh_answered (Err r) = record { refusal = as_refusal r; state = empty_state }
