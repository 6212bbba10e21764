-- Jobs stay lawful under the step rules, whoever is released and served: case by case of what becomes of a job. So a release meets no unfinished work, and no deadline passes unseen.
-- Assumes nothing.
use mathlib.Core.Path.{◌≡◌, refl}
use mathlib.Core.Bool.{Bool, true, false}
use mathlib.Core.Logic.{◌⊎◌, inl, inr}
use Prim.Native.Nat.{ℕ, zero, suc, ◌+◌, ◌≤◌, min}
use native.Mathlib.Nat.{le_refl}
use native.Mathlib.Omega.{arith}
use lib.Dec.{T, leb}
use lib.Arith.{lt→nleb}
use Rattle.laws.specs.Found.{Found}
use Rattle.laws.proofs.Test.{pick_no, pick_le}
use Rattle.theory.specs.Task.{Task, LawfulTask, Tasks}
use Rattle.theory.specs.Job.{Job, fresh, Open, LawfulJob, release, serve, age, is_late, drop}
use Rattle.theory.specs.Steps.{Service, Accepted, names, released, step, jobs}
use Rattle.theory.proofs.Jobs.{Aged, finished, dropped, nearer, aged, due}

module _ (k : Task) (h : LawfulTask k) where
  pub fresh_lawful : LawfulJob k (fresh k)
  fresh_lawful = (le_refl k.gap, inl (refl, refl))

  release_lawful : (b : Bool) (j : Job) → LawfulJob k j → LawfulJob k (release k b j)
  release_lawful true j v = (omega arith, inr (record { some = omega arith; fits = omega arith; ahead = omega arith; adds = omega arith }))
  release_lawful false j v = v

  tick_lawful : (b : Bool) (j : Job) → LawfulJob k j → LawfulJob k (drop (age k (serve b j)))
  tick_lawful b j v = (omega arith, go v (drop (age k (serve b j))) (is_late (age k (serve b j))) refl (aged k (serve b j)))
    where
      go : LawfulJob k j → (new : Job) (late : Bool) → new.since ≡ min k.gap (j.since + 1) → Aged (serve b j) new late → ((new.remaining ≡ 0) × (new.left ≡ 0)) ⊎ Open k new
      go v new late e (finished z n a c) = inl (a, c)
      go v new late e (dropped z y t a c) = inl (a, c)
      go (s, inl f) new late e (nearer z y n a c) = absurd (omega arith)
      go (s, inr f) new late e (nearer z y n a c) = inr (record { some = omega arith; fits = omega arith; ahead = omega arith; adds = omega arith })

  -- a task that may be released has no work
  ready_done : (j : Job) → LawfulJob k j → k.gap ≤ j.since → j.remaining ≡ 0
  ready_done j (s, inl f) l = f.0
  ready_done j (s, inr f) l = absurd (omega arith)

-- no work is due at once
pub none_due : (k : Task) (j : Job) → LawfulJob k j → due 0 j ≡ 0
none_due k j (s, inl f) = omega (arith, pick_le (leb j.left 0) j.remaining, f.0)
none_due k j (s, inr f) = pick_no (leb j.left 0) j.remaining 0 (lt→nleb j.left 0 f.ahead)

pub stays_lawful : (ts : Tasks) (r : ℕ → Bool) (choose : (ℕ → Job) → Found) (js : ℕ → Job) (i : ℕ)
    → LawfulTask (ts.task i) → LawfulJob (ts.task i) (js i) → LawfulJob (ts.task i) (step ts r choose js i)
stays_lawful ts r choose js i h v = tick_lawful (ts.task i) h (names (choose (released ts r js)) i) (released ts r js i) (release_lawful (ts.task i) h (r i) (js i) v)

pub jobs_lawful : (ts : Tasks) (r : ℕ → ℕ → Bool) (o : Service) (n i : ℕ) → LawfulTask (ts.task i) → LawfulJob (ts.task i) (jobs ts r o n i)
unfolding jobs
jobs_lawful ts r o zero i h = fresh_lawful (ts.task i) h
jobs_lawful ts r o (suc n) i h = stays_lawful ts (r n) (o n) (jobs ts r o n) i h (jobs_lawful ts r o n i h)

-- an accepted release finds the job before it done
pub release_finds_done : (ts : Tasks) (r : ℕ → ℕ → Bool) (o : Service) → Accepted ts r o → (n i : ℕ) → LawfulTask (ts.task i) → T (r n i) → (jobs ts r o n i).remaining ≡ 0
release_finds_done ts r o accepted n i h t = ready_done (ts.task i) h (jobs ts r o n i) (jobs_lawful ts r o n i h) (accepted n i t).1
