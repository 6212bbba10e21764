-- What an answer of `verdict` promises of the runner, and that it depends on the tree and on the queue's own tasks alone. Assumes nothing.
use mathlib.Core.Path.{◌≡◌, sym, ◌∙◌}
use mathlib.Core.Bool.{true, false, not}
use mathlib.Core.Logic.{◌⊎◌}
use mathlib.Core.List.{List}
use Prim.Native.Nat.{ℕ, ◌<◌}
use native.Mathlib.Omega.{arith}
use lib.Dec.{T}
use Rattle.laws.specs.Bits.{in_set}
use Rattle.theory.specs.Bounds.{Streams}
use Rattle.theory.specs.Task.{Tasks, belongs, demand}
use Rattle.theory.specs.Verdict.{Meets, Short}
use Rattle.theory.proofs.Demand.{demand_same_tasks}
use Rattle.table.specs.declared.Table.{Table}
use Rattle.table.specs.Table.{task_at}
use Rattle.table.specs.Rules.{WellFormed}
use Rattle.table.specs.Ranged.{Ranged}
use Rattle.search.specs.declared.VerdictAnswer.{VerdictAnswer}
use Rattle.verdict.specs.Questions.{horizon_refusal, VerdictAnswers}
use Rattle.runner.specs.History.{Inputs, answer_at, History}
use Rattle.promise.proofs.Meets.{never_late}
use Rattle.promise.proofs.Short.{Late, some_late}

-- MEETS: no task of the queue is ever in a late set
pub meets_promise : (t : Table) → Ranged t → (q : ℕ) (a : VerdictAnswer) → VerdictAnswers t q a → (horizon_refusal t q).number ≡ 0 → a.meets ≡ true
    → (values : ℕ → List ℕ) (sets : ℕ → ℕ) → Inputs values sets → (N : ℕ) → History t values sets N
    → (n i : ℕ) → n < N → i < t.tasks → (task_at t i).queue ≡ q → in_set (answer_at t values sets n).late i ≡ false
meets_promise t ranged q a v e m values = never_late t ranged q ((v.says e).meets m) values

-- SHORT: some job of the queue is late by the window's end, whoever is served
pub short_promise : (t : Table) → Ranged t → WellFormed t → (q : ℕ) (a : VerdictAnswer) → VerdictAnswers t q a → (horizon_refusal t q).number ≡ 0 → a.meets ≡ false → Late t q a.window
short_promise t ranged well q a v e m = some_late t ranged well q a.window a.demand a.supply ((v.says e).short m)

-- ---- the tree and the queue's own tasks

-- each number has the same task in both, or a task of another queue in both
pub record SameTasks (ts us : Tasks) (q : ℕ) : Type 0 where
  pub number : ts.number ≡ us.number
  pub task : (i : ℕ) → i < ts.number → (ts.task i ≡ us.task i) ⊎ (T (not (belongs ts q i)) × T (not (belongs us q i)))

module _ (G : Streams) (ts us : Tasks) (q : ℕ) (same : SameTasks ts us q) where
  demand_same : (w : ℕ) → demand ts q w ≡ demand us q w
  demand_same w = demand_same_tasks ts us q w same.number same.task

  pub meets_alone : Meets G ts q → Meets G us q
  meets_alone meets w m h l = omega (arith, meets w m h l, demand_same w)

  pub short_alone : (w d s : ℕ) → Short G ts q w d s → Short G us q w d s
  short_alone w d s short = record {
    some = short.some;
    demands = sym (demand_same w) ∙ short.demands;
    supplies = short.supplies;
    exceeds = short.exceeds;
    shortest = λ v m a b l. omega (arith, short.shortest v m a b l, demand_same v);
  }
