-- A row of jobs: it grows by one entry at a time, its first entries are the jobs, and those past them are 0. Assumes nothing.
use mathlib.Core.Path.{◌≡◌, ap, ◌∙◌}
use mathlib.Core.List.{List}
use mathlib.Core.Logic.{inl, inr}
use Prim.Native.Nat.{ℕ, ◌+◌, ◌≤◌, ◌<◌}
use lib.ListN.{get_or, set, replicate, get_or-replicate, get_or-eq_default}
use Rattle.laws.proofs.Test.{le_or_lt}
use Rattle.laws.proofs.Up.{up_none, up_next, up_at, up_later, up_same}
use Rattle.theory.specs.Job.{Job}
use Rattle.job.specs.declared.Job.{Job as Entry}
use Rattle.job.specs.Entry.{job_of, entry_of, no_job}
use Rattle.jobs.specs.Entries.{row}

zeros : (i : ℕ) → get_or (replicate 32 no_job) i no_job ≡ no_job
zeros i = elim (le_or_lt 32 i) [ inl l ↦ get_or-eq_default (replicate 32 no_job) no_job {n = i} l | inr l ↦ get_or-replicate 32 i no_job no_job l ]

module _ (js : ℕ → Job) where
  pub row_none : row 0 js ≡ replicate 32 no_job
  row_none = up_none (λ i. entry_of (js i)) (replicate 32 no_job)

  pub row_next : (n : ℕ) (jobs : List Entry) → jobs ≡ row n js → set jobs n (entry_of (js n)) ≡ row (n + 1) js
  row_next n jobs e = up_next (λ i. entry_of (js i)) n (replicate 32 no_job) jobs e

  pub row_at : (n i : ℕ) → n ≤ 32 → i < n → job_of (get_or (row n js) i no_job) ≡ js i
  row_at n i h l = ap job_of (up_at (λ i. entry_of (js i)) no_job n i (replicate 32 no_job) l h)

  pub row_past : (n i : ℕ) → n ≤ i → get_or (row n js) i no_job ≡ no_job
  row_past n i l = up_later (λ i. entry_of (js i)) no_job n i (replicate 32 no_job) l ∙ zeros i

pub row_same : (js ks : ℕ → Job) (n : ℕ) → ((i : ℕ) → i < n → js i ≡ ks i) → row n js ≡ row n ks
row_same js ks n e = up_same (λ i. entry_of (js i)) (λ i. entry_of (ks i)) n (replicate 32 no_job) (λ i l. ap entry_of (e i l))
