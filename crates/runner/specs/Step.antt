-- One step: what it refuses, its four rules, and its answer.
use Rattle.std.specs.Prelude.{Bool, false, not, ◌&&◌, ◌||◌, List, ℕ, get_or, leb, ltb, is_some, unwrap_or, Result, Ok, Err}
use Rattle.laws.specs.Found.{Found, first}
use Rattle.laws.specs.Bits.{in_set, set_of}
use Rattle.theory.specs.Tree.{Position, grant}
use Rattle.theory.specs.Guards.{move}
use Rattle.theory.specs.Job.{Job, age, is_late}
use Rattle.theory.specs.Steps.{released, served, step, earliest}
use Rattle.table.specs.declared.Table.{Table}
use Rattle.table.specs.declared.Refusal.{Refusal}
use Rattle.table.specs.Table.{tree_of, tasks_of}
use Rattle.table.specs.declared.refused.Refused.{Refused}
use Rattle.table.specs.Reasons.{as_refusal}
use Rattle.table.specs.Rules.{fine, refuse, found_if, judged}
use Rattle.jobs.specs.Entries.{choice_of}
use Rattle.runner.specs.declared.State.{State}
use Rattle.runner.specs.declared.Granted.{Granted}
use Rattle.runner.specs.declared.places.Place.{Place}
use Rattle.runner.specs.declared.StepAnswer.{StepAnswer}
use Rattle.runner.specs.State.{job_at, position_of, state_of, is_lawful, unless}

-- ---- refusals

-- EARLY: task i is released, and it is not in the table or its since is below its gap.
abbrev pub is_early : Table → (ℕ → Job) → ℕ → ℕ → Bool
is_early t js set i = in_set set i && (leb t.tasks i || ltb (js i).since ((tasks_of t).task i).gap)

abbrev pub early_task : Table → (ℕ → Job) → ℕ → Found
early_task t js set = first (is_early t js set) 0 32

-- STATE at 0, then EARLY at the lowest such task.
abbrev pub state_refusal : Table → State → ℕ → Refusal
state_refusal t s set = refuse 14 (λ v. 0) (found_if (not (is_lawful t s))) (refuse 15 (λ i. i) (early_task t (job_at s) set) fine)

-- The table's refusal comes first.
unfoldable pub step_refusal : Table → State → ℕ → Refusal
step_refusal t s set = unless (judged t).number (state_refusal t s set) (judged t)

-- ---- the four rules

-- A variable's value.
abbrev pub value_at : List ℕ → ℕ → ℕ
value_at values i = get_or values i 0

abbrev pub place_of : Position → Place
place_of p = record { location = p.location; done = p.done }

-- Rule 1: the set's tasks are released. Rule 2: the tick of the location's queue goes to the earliest deadline.
-- Rule 3: time goes on for every job; a late one is named and dropped. Rule 4: the place moves on by the values.
unfoldable pub stepped : Table → State → List ℕ → ℕ → StepAnswer
stepped t s values set =
    let ts = tasks_of t in
    let queue = grant (tree_of t) (position_of s) in
    let chosen = choice_of (earliest ts queue (released ts (in_set set) (job_at s))) in
    record {
      refusal = fine;
      state = state_of t (move (tree_of t) (value_at values) (position_of s)) (step ts (in_set set) (earliest ts queue) (job_at s));
      queue = queue;
      served = is_some chosen;
      task = unwrap_or chosen 0;
      late = set_of (λ i. is_late (age (ts.task i) (served ts (in_set set) (earliest ts queue) (job_at s) i))) t.tasks;
    }

-- ---- the answer

-- Beside a refusal: the state that was given, and nothing else.
abbrev pub refused_step : Refusal → State → StepAnswer
refused_step r s = record { refusal = r; state = s; queue = 0; served = false; task = 0; late = 0 }

unfoldable pub step_answer : Table → State → List ℕ → ℕ → StepAnswer
step_answer t s values set = unless (step_refusal t s set).number (stepped t s values set) (refused_step (step_refusal t s set) s)

-- What C is handed for a step's result and the state after it.
abbrev pub step_answered : State → Result Granted Refused → StepAnswer
step_answered s (Ok g) = record { refusal = fine; state = s; queue = g.queue; served = is_some g.task; task = unwrap_or g.task 0; late = g.late }
step_answered s (Err r) = refused_step (as_refusal r) s
