-- What the entries of a state say of jobs, whom a tick serves, and a job after its tick.
use Rattle.std.specs.Prelude.{◌≡◌, List, Option, None, Some, ℕ, ◌<◌, get_or, replicate}
use Rattle.laws.specs.Found.{Found, nobody, at}
use Rattle.laws.specs.Up.{up_to}
use Rattle.theory.specs.Job.{Job, serve, age}
use Rattle.theory.specs.Steps.{names}
use Rattle.table.specs.declared.Table.{Table}
use Rattle.table.specs.Table.{tasks_of}
use Rattle.job.specs.declared.Job.{Job as Entry}
use Rattle.job.specs.Entry.{job_of, entry_of, no_job}

-- Task i's job.
abbrev pub job_in : List Entry → ℕ → Job
job_in entries i = job_of (get_or entries i no_job)

-- The 32 entries of n jobs: those past them are 0.
abbrev pub row : ℕ → (ℕ → Job) → List Entry
row n js = up_to (λ i. entry_of (js i)) n (replicate 32 no_job)

-- What a step gives for each of the first n tasks is their job.
abbrev pub Makes : (ℕ → Entry → Type 0) → ℕ → (ℕ → Job) → Type 0
Makes gives n js = (i : ℕ) (entry : Entry) → i < n → gives i entry → entry ≡ entry_of (js i)

-- Whom the tick serves: none where it is nobody.
abbrev pub choice_of : Found → Option ℕ
choice_of nobody = None
choice_of (at i) = Some i

abbrev pub chosen_by : Option ℕ → Found
chosen_by None = nobody
chosen_by (Some i) = at i

-- Job i once the tick is served and over, before it is dropped.
abbrev pub aged : Table → Found → (ℕ → Job) → ℕ → Job
aged t chosen js i = age ((tasks_of t).task i) (serve (names chosen i) (js i))
