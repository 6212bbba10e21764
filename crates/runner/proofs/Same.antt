-- The step rules read only the jobs of the tasks: where two states have the same jobs there, the rules choose, serve and leave the same. Assumes nothing.
use mathlib.Core.Path.{◌≡◌, ap, ap₂}
use mathlib.Core.Bool.{Bool, ◌&&◌}
use Prim.Native.Nat.{ℕ, ◌<◌}
use lib.Dec.{ltb}
use Rattle.laws.proofs.Best.{best_same}
use Rattle.theory.specs.Task.{Tasks, belongs}
use Rattle.theory.specs.Job.{Job, release, serve, age, drop}
use Rattle.theory.specs.Steps.{names, released, served, step, waits, earliest}

module _ (ts : Tasks) (r : ℕ → Bool) (q : ℕ) (js ks : ℕ → Job) (same : (i : ℕ) → i < ts.number → js i ≡ ks i) where
  pub chosen_same : earliest ts q (released ts r js) ≡ earliest ts q (released ts r ks)
  chosen_same =
      best_same (waits ts q (released ts r js)) (waits ts q (released ts r ks)) (λ i. (released ts r js i).left) (λ i. (released ts r ks i).left) ts.number
      (λ i l. ap (λ (j : Job). belongs ts q i && ltb 0 (release (ts.task i) (r i) j).remaining) (same i l))
      (λ i l. ap (λ (j : Job). (release (ts.task i) (r i) j).left) (same i l))

  pub served_same : (i : ℕ) → i < ts.number → served ts r (earliest ts q) js i ≡ served ts r (earliest ts q) ks i
  served_same i l = ap₂ (λ o j. serve (names o i) (release (ts.task i) (r i) j)) chosen_same (same i l)

  pub step_same : (i : ℕ) → i < ts.number → step ts r (earliest ts q) js i ≡ step ts r (earliest ts q) ks i
  step_same i l = ap (λ j. drop (age (ts.task i) j)) (served_same i l)
