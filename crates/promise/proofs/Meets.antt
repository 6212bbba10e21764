-- Demand 3, forward: where the verdict of a queue is MEETS, no task of the queue is in a late set of the runner, over any accepted steps from the fresh state, whatever
-- the values, the releases and the other queues do. Assumes nothing.
use mathlib.Core.Path.{◌≡◌, refl, ap, ◌∙◌}
use mathlib.Core.Bool.{Bool, true, false, not, ◌&&◌}
use mathlib.Core.List.{List}
use Prim.Native.Nat.{ℕ, suc, ◌<◌}
use native.Mathlib.Omega.{arith}
use lib.Dec.{T, ltb}
use Rattle.laws.specs.Bits.{in_set}
use Rattle.laws.proofs.Test.{eqb_of}
use Rattle.theory.specs.Grants.{is}
use Rattle.theory.specs.Tree.{grants}
use Rattle.theory.specs.Cycles.{system, least_of}
use Rattle.theory.specs.Verdict.{Meets}
use Rattle.theory.specs.Steps.{late}
use Rattle.theory.proofs.Runs.{tree_least}
use Rattle.theory.proofs.Promise.{meets_never_late}
use Rattle.table.specs.declared.Table.{Table}
use Rattle.table.specs.Table.{task_at, tree_of, tasks_of}
use Rattle.table.specs.Ranged.{Ranged}
use Rattle.table.proofs.WellFormed.{tasks_lawful}
use Rattle.runner.specs.declared.StepAnswer.{StepAnswer}
use Rattle.runner.specs.History.{Inputs, answer_at, History, granted, releases, service}
use Rattle.runner.proofs.Follows.{follows, accepted, history_well_formed}
use Rattle.runner.proofs.Grants.{granted_runs}
use Rattle.promise.proofs.Prefix.{stopped, answer_same, inputs_same, for_ever}

not_late : (b c : Bool) → T (not c) → (b && c) ≡ false
not_late true true h = absurd h
not_late true false h = refl
not_late false c h = refl

module _ (t : Table) (ranged : Ranged t) (q : ℕ) (meets : Meets (grants (tree_of t)) (tasks_of t) q) (values : ℕ → List ℕ) where
  -- where all steps are accepted
  ever : (sets : ℕ → ℕ) → Inputs values sets → ((M : ℕ) → History t values sets M) → (n i : ℕ) → i < t.tasks → (task_at t i).queue ≡ q
      → in_set (answer_at t values sets n).late i ≡ false
  ever sets inputs h n i l e =
      let w = history_well_formed t ranged values sets 0 (h 0) in
      (follows t ranged values sets inputs (suc n) (h (suc n))).names_late n i (omega arith)
      ∙ not_late (ltb i t.tasks) (late (tasks_of t) (releases sets) (service t values) n i)
      (meets_never_late (grants (tree_of t)) (tasks_of t) q (tasks_lawful t w q) (λ m. (least_of (system (tree_of t)) (is q) m, tree_least (tree_of t) w.formed (is q) m)) meets
      (granted t values) (granted_runs t w values sets inputs) (releases sets) (accepted t ranged values sets inputs h) n i l (eqb_of (task_at t i).queue q e))

  pub never_late : (sets : ℕ → ℕ) → Inputs values sets → (N : ℕ) → History t values sets N → (n i : ℕ) → n < N → i < t.tasks → (task_at t i).queue ≡ q
      → in_set (answer_at t values sets n).late i ≡ false
  never_late sets inputs N h n i l m e =
      ap (λ (a : StepAnswer). in_set a.late i) (answer_same t values sets N n l)
      ∙ ever (stopped sets N) (inputs_same t values sets N inputs) (for_ever t values sets N ranged inputs h) n i m e
