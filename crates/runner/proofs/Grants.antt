-- What the walk by the values grants is a stream of the tree's runs; and over accepted steps the grants to all queues and to nobody sum to the number of steps, as
-- each step grants to one of them. Assumes nothing.
use mathlib.Core.Path.{◌≡◌, refl, ◌∙◌}
use mathlib.Core.List.{List}
use Prim.Native.Nat.{ℕ, zero, suc, ◌+◌, ◌≤◌}
use native.Mathlib.Omega.{arith}
use Rattle.laws.specs.Sum.{sum}
use Rattle.laws.proofs.Sum.{sum_same}
use Rattle.theory.specs.Grants.{count, is}
use Rattle.theory.specs.Tree.{grants}
use Rattle.theory.specs.Guards.{walk}
use Rattle.theory.proofs.Grants.{count_same, counts_are_all}
use Rattle.theory.proofs.Walk.{walk_is_run}
use Rattle.table.specs.declared.Table.{Table}
use Rattle.table.specs.Table.{tree_of}
use Rattle.table.specs.Rules.{WellFormed}
use Rattle.table.specs.Ranged.{Ranged}
use Rattle.runner.specs.Step.{value_at}
use Rattle.runner.specs.History.{Inputs, answer_at, History, walked, granted}
use Rattle.runner.proofs.Keeps.{Stands, root_stands, move_stands}
use Rattle.runner.proofs.Follows.{history_well_formed, follows}

module _ (t : Table) (w : WellFormed t) (values : ℕ → List ℕ) where
  pub walk_stands : (n : ℕ) → Stands t (walked t values n)
  unfolding walk
  walk_stands zero = root_stands t w
  walk_stands (suc n) = move_stands t w (value_at (values n)) (walked t values n) (walk_stands n)

  pub granted_queue : (n : ℕ) → granted t values n ≤ t.queues
  granted_queue n = w.queue (walked t values n).location (walk_stands n).0

  pub granted_runs : (sets : ℕ → ℕ) → Inputs values sets → grants (tree_of t) (granted t values)
  granted_runs sets inputs = record { at = walked t values; run = walk_is_run (tree_of t) w.formed w.guarded (λ n. value_at (values n)) inputs.value; each = λ n. refl }

pub granted_sum : (t : Table) → Ranged t → (values : ℕ → List ℕ) (sets : ℕ → ℕ) → Inputs values sets → (N : ℕ) → History t values sets N
    → sum (λ q. count (is q) (λ n. (answer_at t values sets n).queue) 0 N) 0 (suc t.queues) ≡ N
granted_sum t ranged values sets inputs N h =
    sum_same (λ q. count (is q) (λ n. (answer_at t values sets n).queue) 0 N) (λ q. count (is q) (granted t values) 0 N) 0 0 (suc t.queues)
    (λ q l. count_same (is (0 + q)) (λ n. (answer_at t values sets n).queue) (granted t values) 0 0 N (λ i m. (follows t ranged values sets inputs N h).queue (0 + i) (omega arith)))
    ∙ counts_are_all (granted t values) (suc t.queues) 0 N (λ n. omega (arith, granted_queue t (history_well_formed t ranged values sets N h) values n))
