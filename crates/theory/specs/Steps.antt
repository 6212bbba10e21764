-- The step rules over all tasks, with the order of service as a parameter; and what any number of steps leads to.
use Rattle.std.specs.Prelude.{◌≡◌, Bool, false, ◌&&◌, ℕ, zero, suc, ◌≤◌, ◌<◌, T, eqb, ltb}
use Rattle.laws.specs.Found.{Found, nobody, at, best}
use Rattle.theory.specs.Grants.{Stream}
use Rattle.theory.specs.Task.{Tasks, belongs}
use Rattle.theory.specs.Job.{Job, fresh, release, serve, age, is_late, drop}

-- Task i is the one that was found.
abbrev pub names : Found → ℕ → Bool
names nobody i = false
names (at j) i = eqb i j

-- Rule 1 for every task: r i says whether task i is released.
abbrev pub released : Tasks → (ℕ → Bool) → (ℕ → Job) → ℕ → Job
released ts r js i = release (ts.task i) (r i) (js i)

-- Rules 1 and 2: `choose` finds, among the jobs after the releases, the one that is served.
abbrev pub served : Tasks → (ℕ → Bool) → ((ℕ → Job) → Found) → (ℕ → Job) → ℕ → Job
served ts r choose js i = serve (names (choose (released ts r js)) i) (released ts r js i)

-- Rules 1 to 3.
abbrev pub step : Tasks → (ℕ → Bool) → ((ℕ → Job) → Found) → (ℕ → Job) → ℕ → Job
step ts r choose js i = drop (age (ts.task i) (served ts r choose js i))

-- ---- orders of service

-- Whom each tick serves, by the tick's number and the jobs that it finds.
abbrev pub Service : Type 0
Service = ℕ → (ℕ → Job) → Found

-- Only tasks of the queue that the tick is granted to, or nobody. (A task without work takes nothing.)
abbrev pub Respects : Tasks → Stream → Service → Type 0
Respects ts g o = (n : ℕ) (js : ℕ → Job) (j : ℕ) → o n js ≡ at j → (j < ts.number) × T (belongs ts (g n) j)

-- Task i of queue q has work.
abbrev pub waits : Tasks → ℕ → (ℕ → Job) → ℕ → Bool
waits ts q js i = belongs ts q i && ltb 0 (js i).remaining

-- The runner's choice where queue q is granted: the least left, ties to the lower task.
abbrev pub earliest : Tasks → ℕ → (ℕ → Job) → Found
earliest ts q js = best (waits ts q js) (λ i. (js i).left) ts.number

-- Earliest deadline first, over a stream of grants.
abbrev pub edf : Tasks → Stream → Service
edf ts g n js = earliest ts (g n) js

-- ---- any number of steps from the fresh state

-- The jobs before tick n; r n i says whether tick n releases task i.
unfoldable pub jobs : Tasks → (ℕ → ℕ → Bool) → Service → ℕ → ℕ → Job
jobs ts r o zero i = fresh (ts.task i)
jobs ts r o (suc n) i = step ts (r n) (o n) (jobs ts r o n) i

-- The jobs once tick n is served.
abbrev pub after : Tasks → (ℕ → ℕ → Bool) → Service → ℕ → ℕ → Job
after ts r o n = served ts (r n) (o n) (jobs ts r o n)

-- Every release is accepted: the task is in the table, and its since has reached the gap.
abbrev pub Accepted : Tasks → (ℕ → ℕ → Bool) → Service → Type 0
Accepted ts r o = (n i : ℕ) → T (r n i) → (i < ts.number) × ((ts.task i).gap ≤ (jobs ts r o n i).since)

-- Task i is named late at tick n.
abbrev pub late : Tasks → (ℕ → ℕ → Bool) → Service → ℕ → ℕ → Bool
late ts r o n i = is_late (age (ts.task i) (after ts r o n i))

-- Some job of queue q is late at a tick before d.
abbrev pub SomeLate : Tasks → ℕ → (ℕ → ℕ → Bool) → Service → ℕ → Type 0
SomeLate ts q r o d = (n i : ℕ) × (n < d) × (i < ts.number) × T (belongs ts q i) × T (late ts r o n i)
