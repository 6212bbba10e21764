-- Demand 3, backward: where the verdict of a queue is SHORT, some values and releases are accepted by every step and make a job of the queue late by the end of a window
-- of that length under every order of service; the runner's own order is one of them. Assumes nothing.
use mathlib.Core.Path.{◌≡◌, sym, ap, ◌∙◌, subst}
use mathlib.Core.Bool.{Bool, true, ◌&&◌}
use mathlib.Core.List.{List}
use Prim.Native.Nat.{ℕ, suc, ◌+◌, ◌<◌}
use native.Mathlib.Omega.{arith}
use lib.Dec.{T, eqb→eq, ltb, lt→ltb}
use Rattle.laws.specs.Bits.{in_set}
use Rattle.laws.proofs.Test.{and_both}
use Rattle.laws.proofs.Cases.{is_true}
use Rattle.theory.specs.Grants.{Stream}
use Rattle.theory.specs.Tree.{grant, grants}
use Rattle.theory.specs.Guards.{walk}
use Rattle.theory.specs.Task.{belongs}
use Rattle.theory.specs.Verdict.{Short}
use Rattle.theory.specs.Steps.{Service, Respects, edf, Accepted, late, SomeLate}
use Rattle.theory.proofs.Walk.{run_is_walk}
use Rattle.theory.proofs.SomeLate.{edf_respects}
use Rattle.theory.proofs.Promise.{short_some_late}
use Rattle.table.specs.declared.Table.{Table}
use Rattle.table.specs.Table.{task_at, tree_of, tasks_of}
use Rattle.table.specs.Rules.{WellFormed}
use Rattle.table.specs.Ranged.{Ranged}
use Rattle.table.proofs.WellFormed.{tasks_lawful, well_formed_judged}
use Rattle.runner.specs.History.{Inputs, answer_at, History, granted, releases, Reached}
use Rattle.runner.proofs.Follows.{follows}
use Rattle.runner.proofs.Reaches.{reaches}

-- what the runner is given, and what it leads to, with a window of w ticks that begins at tick `start`
pub record Late (t : Table) (q w : ℕ) : Type 0 where
  pub values : ℕ → List ℕ
  pub sets : ℕ → ℕ
  pub start : ℕ
  pub inputs : Inputs values sets
  -- every step of the runner is accepted
  pub history : (N : ℕ) → History t values sets N
  -- under every order of service the releases are accepted, and some job of the queue is late by the window's end
  pub every_order : (o : Service) → Respects (tasks_of t) (granted t values) o → Accepted (tasks_of t) (releases sets) o × SomeLate (tasks_of t) q (releases sets) o (start + w)
  -- and so it is in the runner: at step n task i of the queue is in the late set
  pub step : ℕ
  pub task : ℕ
  pub by_the_end : step < start + w
  pub in_table : task < t.tasks
  pub of_queue : (task_at t task).queue ≡ q
  pub named_late : in_set (answer_at t values sets step).late task ≡ true

module _ (t : Table) (ranged : Ranged t) (well : WellFormed t) (q w d s : ℕ) (short : Short (grants (tree_of t)) (tasks_of t) q w d s) where
  -- a stream of a run is what a walk by values grants
  respects_same : (g h : Stream) → ((n : ℕ) → g n ≡ h n) → (o : Service) → Respects (tasks_of t) h o → Respects (tasks_of t) g o
  respects_same g h e o r n js j c = let p = r n js j c in (p.0, subst (λ x. T (belongs (tasks_of t) x j)) (sym (e n)) p.1)

  pub some_late : Late t q w
  some_late =
      let (g, start, r, run, late-under) = short_some_late (grants (tree_of t)) (tasks_of t) q (tasks_lawful t well q) w d s short in
      let (values, small, same) = run_is_walk (tree_of t) well.formed well.guarded run.at run.run in
      let walked : Stream = λ n. grant (tree_of t) (walk (tree_of t) values n) in
      let on : (n : ℕ) → g n ≡ walked n = λ n. run.each n ∙ ap (grant (tree_of t)) (sym (same n)) in
      let under : (o : Service) → Respects (tasks_of t) walked o → Accepted (tasks_of t) r o × SomeLate (tasks_of t) q r o (start + w) = λ o f. late-under o (respects_same g walked on o f) in
      let reached = reaches t ranged (well_formed_judged t well) values small r (under (edf (tasks_of t) walked) (edf_respects (tasks_of t) walked)).0 in
      finish values r start reached under
    where
      finish : (values : ℕ → ℕ → ℕ) (r : ℕ → ℕ → Bool) (start : ℕ) (reached : Reached t values r)
          → ((o : Service) → Respects (tasks_of t) (λ n. grant (tree_of t) (walk (tree_of t) values n)) o → Accepted (tasks_of t) r o × SomeLate (tasks_of t) q r o (start + w))
          → Late t q w
      finish values r start reached under =
          let given : (o : Service) → Respects (tasks_of t) (granted t reached.lists) o → Accepted (tasks_of t) (releases reached.sets) o × SomeLate (tasks_of t) q (releases reached.sets) o (start + w) =
          λ o f.
          subst (λ x. Accepted (tasks_of t) x o × SomeLate (tasks_of t) q x o (start + w)) (sym reached.releases_are)
          (under o (subst (λ x. Respects (tasks_of t) (λ n. grant (tree_of t) (x n)) o) reached.walks f)) in
          let (n, i, l, m, y, z) = (given (edf (tasks_of t) (granted t reached.lists)) (edf_respects (tasks_of t) (granted t reached.lists))).1 in
          record {
            values = reached.lists;
            sets = reached.sets;
            start = start;
            inputs = reached.inputs;
            history = reached.history;
            every_order = given;
            step = n;
            task = i;
            by_the_end = l;
            in_table = m;
            of_queue = eqb→eq (task_at t i).queue q y;
            named_late =
                (follows t ranged reached.lists reached.sets reached.inputs (suc n) (reached.history (suc n))).names_late n i (omega arith)
                ∙ is_true (ltb i t.tasks && late (tasks_of t) (releases reached.sets) (edf (tasks_of t) (granted t reached.lists)) n i)
                (and_both (ltb i t.tasks) (late (tasks_of t) (releases reached.sets) (edf (tasks_of t) (granted t reached.lists)) n i) (lt→ltb i t.tasks m) z);
          }
