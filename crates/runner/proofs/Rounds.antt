-- The passes over the jobs, one after the other, are the step rules: each reads only the tasks' entries, and finds there what the pass before it left.
-- Assumes nothing.
use mathlib.Core.Path.{◌≡◌, ap, ap₂, ◌∙◌}
use mathlib.Core.Bool.{◌&&◌}
use mathlib.Core.List.{List}
use Prim.Native.Nat.{ℕ, ◌≤◌, ◌<◌}
use lib.Dec.{ltb}
use Rattle.laws.specs.Found.{Found}
use Rattle.laws.specs.Bits.{in_set, set_of}
use Rattle.laws.proofs.Best.{best_same}
use Rattle.laws.proofs.Bits.{set_same}
use Rattle.theory.specs.Task.{belongs}
use Rattle.theory.specs.Job.{Job, serve, age, is_late, drop}
use Rattle.theory.specs.Steps.{names, released, served, step, waits, earliest}
use Rattle.table.specs.declared.Table.{Table}
use Rattle.table.specs.Table.{tasks_of}
use Rattle.job.specs.declared.Job.{Job as Entry}
use Rattle.jobs.specs.Entries.{job_in, row, choice_of, chosen_by, aged}
use Rattle.jobs.proofs.Rows.{row_at, row_same}
use Rattle.jobs.proofs.Service.{says_chosen}

module _ (t : Table) (few : t.tasks ≤ 32) (js : ℕ → Job) (set q : ℕ) where
  -- what each pass leaves
  abbrev pub waiting : List Entry
  waiting = row t.tasks (released (tasks_of t) (in_set set) js)

  abbrev pub chosen : Found
  chosen = earliest (tasks_of t) q (job_in waiting)

  abbrev pub late : List Entry
  late = row t.tasks (aged t (chosen_by (choice_of chosen)) (job_in waiting))

  waiting_at_law : (i : ℕ) → i < t.tasks → job_in waiting i ≡ released (tasks_of t) (in_set set) js i
  waiting_at_law i l = row_at (released (tasks_of t) (in_set set) js) t.tasks i few l

  pub chosen_as : chosen ≡ earliest (tasks_of t) q (released (tasks_of t) (in_set set) js)
  chosen_as =
      best_same (waits (tasks_of t) q (job_in waiting)) (waits (tasks_of t) q (released (tasks_of t) (in_set set) js)) _ _ t.tasks
      (λ i l. ap (λ (j : Job). belongs (tasks_of t) q i && ltb 0 j.remaining) (waiting_at_law i l))
      (λ i l. ap (λ (j : Job). j.left) (waiting_at_law i l))

  late_at : (i : ℕ) → i < t.tasks → job_in late i ≡ age ((tasks_of t).task i) (served (tasks_of t) (in_set set) (earliest (tasks_of t) q) js i)
  late_at i l =
      row_at (aged t (chosen_by (choice_of chosen)) (job_in waiting)) t.tasks i few l
      ∙ ap₂ (λ o j. age ((tasks_of t).task i) (serve (names o i) j)) (says_chosen chosen ∙ chosen_as) (waiting_at_law i l)

  pub late_as : set_of (λ i. is_late (job_in late i)) t.tasks
      ≡ set_of (λ i. is_late (age ((tasks_of t).task i) (served (tasks_of t) (in_set set) (earliest (tasks_of t) q) js i))) t.tasks
  late_as = set_same _ _ t.tasks (λ i l. ap is_late (late_at i l))

  pub jobs_as : row t.tasks (λ i. drop (job_in late i)) ≡ row t.tasks (step (tasks_of t) (in_set set) (earliest (tasks_of t) q) js)
  jobs_as = row_same _ _ t.tasks (λ i l. ap drop (late_at i l))
