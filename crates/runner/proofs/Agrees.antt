-- The test for a lawful state says what lawful means: sentence by sentence. Assumes nothing.
use mathlib.Core.Path.{◌≡◌}
use mathlib.Core.Bool.{Bool, not}
use mathlib.Core.Logic.{inl, inr}
use Prim.Native.Nat.{ℕ, ◌+◌}
use lib.Dec.{T, T_not, not_T, eqb, eqb→eq, leb, leb→le, le→leb, ltb, ltb→lt, lt→ltb}
use Rattle.laws.specs.Test.{none}
use Rattle.laws.proofs.Test.{and_left, and_right, and_both, and_fails_right, or_cases, or_left, or_right, eqb_of, none_all, none_each}
use Rattle.laws.proofs.Cases.{not_not}
use Rattle.theory.specs.Task.{Task}
use Rattle.theory.specs.Job.{Job, Open, LawfulJob}
use Rattle.table.specs.declared.Table.{Table}
use Rattle.table.specs.Table.{tree_of, tasks_of}
use Rattle.job.specs.Entry.{job_of, no_job}
use Rattle.runner.specs.declared.State.{State}
use Rattle.runner.specs.State.{job_at, Lawful, is_idle, is_open, is_lawful_job, is_zero, unlawful, left_over, is_lawful}

-- ---- one job

idle_says : (j : Job) → T (is_idle j) → (j.remaining ≡ 0) × (j.left ≡ 0)
idle_says j t = (
  eqb→eq j.remaining 0 (and_left (eqb j.remaining 0) _ t),
  eqb→eq j.left 0 (and_right (eqb j.remaining 0) _ t),
)

idle_of : (j : Job) → (j.remaining ≡ 0) × (j.left ≡ 0) → T (is_idle j)
idle_of j h = and_both (eqb j.remaining 0) _ (eqb_of j.remaining 0 h.0) (eqb_of j.left 0 h.1)

open_says : (k : Task) (j : Job) → T (is_open k j) → Open k j
open_says k j t =
    let u = and_right (leb 1 j.remaining) _ t in
    let w = and_right (leb j.remaining k.work) _ u in
    record {
      some = leb→le 1 j.remaining (and_left (leb 1 j.remaining) _ t);
      fits = leb→le j.remaining k.work (and_left (leb j.remaining k.work) _ u);
      ahead = leb→le 1 j.left (and_left (leb 1 j.left) _ w);
      adds = eqb→eq (j.since + j.left) k.deadline (and_right (leb 1 j.left) _ w);
    }

open_of : (k : Task) (j : Job) → Open k j → T (is_open k j)
open_of k j o =
    and_both (leb 1 j.remaining) _ (le→leb 1 j.remaining o.some)
    (and_both (leb j.remaining k.work) _ (le→leb j.remaining k.work o.fits)
    (and_both (leb 1 j.left) _ (le→leb 1 j.left o.ahead) (eqb_of (j.since + j.left) k.deadline o.adds)))

job_says : (k : Task) (j : Job) → T (is_lawful_job k j) → LawfulJob k j
job_says k j t = (
  leb→le j.since k.gap (and_left (leb j.since k.gap) _ t),
  elim (or_cases (is_idle j) (is_open k j) (and_right (leb j.since k.gap) _ t)) [ inl u ↦ inl (idle_says j u) | inr u ↦ inr (open_says k j u) ],
)

job_of_law : (k : Task) (j : Job) → LawfulJob k j → T (is_lawful_job k j)
job_of_law k j (s, inl h) = and_both (leb j.since k.gap) _ (le→leb j.since k.gap s) (or_left (is_idle j) _ (idle_of j h))
job_of_law k j (s, inr h) = and_both (leb j.since k.gap) _ (le→leb j.since k.gap s) (or_right (is_idle j) _ (open_of k j h))

zero_says : (j : Job) → T (is_zero j) → j ≡ job_of no_job
zero_says j t =
    let e = eqb→eq j.since 0 (and_left (eqb j.since 0) _ t) in
    let h = idle_says j (and_right (eqb j.since 0) _ t) in
    λ i. record { since = e i; remaining = h.0 i; left = h.1 i }

zero_of : (j : Job) → j ≡ job_of no_job → T (is_zero j)
zero_of j e = rw e tt

-- ---- a state

module _ (t : Table) (s : State) where
  abbrev within : Bool
  within = ltb s.location t.locations

  abbrev partly : Bool
  partly = ltb s.done ((tree_of t).ticks s.location)

  abbrev fine : ℕ → Bool
  fine i = is_lawful_job ((tasks_of t).task i) (job_at s i)

  abbrev zero : ℕ → Bool
  zero i = is_zero (job_at s i)

  pub lawful_says : T (is_lawful t s) → Lawful t s
  unfolding is_lawful
  lawful_says y =
      let y₁ = and_right within _ y in
      let y₂ = and_right partly _ y₁ in
      let each = and_left (none (unlawful t (job_at s)) t.tasks) _ y₂ in
      let rest = and_right (none (unlawful t (job_at s)) t.tasks) _ y₂ in
      record {
        location = ltb→lt s.location t.locations (and_left within _ y);
        done = ltb→lt s.done ((tree_of t).ticks s.location) (and_left partly _ y₁);
        job = λ i l. job_says ((tasks_of t).task i) (job_at s i) (not_not (fine i) (none_each (unlawful t (job_at s)) t.tasks i each l));
        past = λ i g l.
            let u = none_each (left_over t.tasks (job_at s)) 32 i rest l in
            zero_says (job_at s i) (not_not (zero i) (and_fails_right (leb t.tasks i) (not (zero i)) u (le→leb t.tasks i g)));
      }

  pub lawful_of : Lawful t s → T (is_lawful t s)
  unfolding is_lawful
  lawful_of h =
      and_both within _ (lt→ltb s.location t.locations h.location)
      (and_both partly _ (lt→ltb s.done ((tree_of t).ticks s.location) h.done)
      (and_both (none (unlawful t (job_at s)) t.tasks) _
      (none_all (unlawful t (job_at s)) t.tasks (λ i l. not_T (not (fine i)) (λ u. T_not (fine i) u (job_of_law ((tasks_of t).task i) (job_at s i) (h.job i l)))))
      (none_all (left_over t.tasks (job_at s)) 32 (λ i l. not_T (left_over t.tasks (job_at s) i) (λ u.
      let g = leb→le t.tasks i (and_left (leb t.tasks i) (not (zero i)) u) in
      T_not (zero i) (and_right (leb t.tasks i) (not (zero i)) u) (zero_of (job_at s i) (h.past i g l)))))))
