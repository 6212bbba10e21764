-- Accepted steps from the fresh state follow the theory, step by step; and where the theory accepts the releases, so does every step. Assumes nothing.
use mathlib.Core.Path.{◌≡◌, sym, ap, ◌∙◌, subst}
use mathlib.Core.Bool.{Bool, not, ◌&&◌, ◌||◌}
use mathlib.Core.Logic.{inl, inr}
use mathlib.Core.List.{List}
use Prim.Native.Nat.{ℕ, zero, suc, ◌^◌, ◌≤◌, ◌<◌}
use native.Mathlib.Nat.{le_refl}
use native.Mathlib.Omega.{arith}
use lib.Dec.{T, T_not, not_T, leb, leb→le, le→leb, ltb, ltb→lt, lt→ltb}
use borrow.Author.Tests.{lt-ltb, le-ltb}
use Rattle.laws.specs.Found.{nobody, found}
use Rattle.laws.specs.Bits.{in_set, set_of}
use Rattle.laws.proofs.Test.{le_or_lt, last_or_before, and_left, and_right, and_fails_right, or_left, or_right, or_cases}
use Rattle.laws.proofs.First.{first_none, first_nobody}
use Rattle.laws.proofs.Bits.{set_small, in_set_of, in_set_past}
use Rattle.laws.proofs.Cases.{of_false}
use Rattle.theory.specs.Tree.{grant}
use Rattle.theory.specs.Guards.{move, walk}
use Rattle.theory.specs.Job.{Job, fresh, age, is_late}
use Rattle.theory.specs.Steps.{released, served, step, earliest, jobs, Accepted, late}
use Rattle.table.specs.declared.Table.{Table}
use Rattle.table.specs.declared.Refusal.{Refusal}
use Rattle.table.specs.Table.{tree_of, tasks_of}
use Rattle.table.specs.Rules.{fine, judged, WellFormed}
use Rattle.table.specs.Ranged.{Ranged}
use Rattle.jobs.proofs.Rows.{row_at}
use Rattle.jobs.proofs.Service.{says_served}
use Rattle.runner.specs.declared.State.{State}
use Rattle.runner.specs.declared.FreshAnswer.{FreshAnswer}
use Rattle.runner.specs.declared.StepAnswer.{StepAnswer}
use Rattle.runner.specs.State.{job_at, position_of, Lawful, fresh_state, fresh_answer}
use Rattle.runner.specs.Step.{is_early, value_at, stepped}
use Rattle.runner.specs.History.{Inputs, state_at, answer_at, History, walked, granted, releases, service, jobs_before, Ready, Obeys}
use Rattle.runner.proofs.Same.{chosen_same, served_same, step_same}
use Rattle.runner.proofs.Agrees.{lawful_of}
use Rattle.runner.proofs.Refusals.{Passes, well_formed, fresh_judged, fresh_given, step_given, accepted_passes, passes_accepted}
use Rattle.runner.proofs.Keeps.{fresh_is_lawful, answer_accepted, step_lawful}

module _ (t : Table) (ranged : Ranged t) (values : ℕ → List ℕ) (sets : ℕ → ℕ) where
  abbrev state : ℕ → State
  state = state_at t values sets

  -- the state before step n is the theory's
  record Meets (n : ℕ) : Type 0 where
    lawful : Lawful t (state n)
    place : position_of (state n) ≡ walked t values n
    job : (i : ℕ) → i < t.tasks → job_at (state n) i ≡ jobs_before t values sets n i

  module _ (begins : (fresh_answer t).refusal ≡ fine) where
    judged_fine : judged t ≡ fine
    judged_fine = sym (fresh_judged t) ∙ begins

    no_refusal : (judged t).number ≡ 0
    no_refusal = ap (λ (r : Refusal). r.number) judged_fine

    few : t.tasks ≤ 32
    few = (well_formed t ranged no_refusal).tasks

    -- ---- the fresh state

    meets_fresh : Meets 0
    unfolding state_at walk jobs
    meets_fresh =
        let e : (fresh_answer t).state ≡ fresh_state t = ap (λ (a : FreshAnswer). a.state) (fresh_given t no_refusal) in
        record {
          lawful = fresh_is_lawful t ranged begins;
          place = ap position_of e;
          job = λ i l. ap (λ s. job_at s i) e ∙ row_at (λ i. fresh ((tasks_of t).task i)) t.tasks i few l;
        }

    -- ---- one step

    module _ (n : ℕ) (m : Meets n) (accepted : (answer_at t values sets n).refusal ≡ fine) where
      given : answer_at t values sets n ≡ stepped t (state n) (values n) (sets n)
      given = step_given t (state n) (sets n) (values n) (answer_accepted t (state n) (values n) (sets n) accepted)

      -- the queue granted, by the state and by the walk
      abbrev q : ℕ
      q = grant (tree_of t) (position_of (state n))

      q_is : q ≡ granted t values n
      q_is = ap (grant (tree_of t)) m.place

      meets_next : Meets (suc n)
      unfolding state_at walk jobs stepped
      meets_next = record {
        lawful = step_lawful t ranged (state n) (values n) (sets n) accepted;
        place = ap (λ (a : StepAnswer). position_of a.state) given ∙ ap (move (tree_of t) (value_at (values n))) m.place;
        job = λ i l.
            ap (λ (a : StepAnswer). job_at a.state i) given
            ∙ (row_at (step (tasks_of t) (releases sets n) (earliest (tasks_of t) q) (job_at (state n))) t.tasks i few l
            ∙ (step_same (tasks_of t) (releases sets n) q (job_at (state n)) (jobs_before t values sets n) m.job i l
            ∙ ap (λ x. step (tasks_of t) (releases sets n) (earliest (tasks_of t) x) (jobs_before t values sets n) i) q_is));
      }

      queue_is : (answer_at t values sets n).queue ≡ granted t values n
      unfolding stepped
      queue_is = ap (λ (a : StepAnswer). a.queue) given ∙ q_is

      -- whom the tick serves
      chosen_is : earliest (tasks_of t) q (released (tasks_of t) (releases sets n) (job_at (state n))) ≡ service t values n (released (tasks_of t) (releases sets n) (jobs_before t values sets n))
      chosen_is =
          chosen_same (tasks_of t) (releases sets n) q (job_at (state n)) (jobs_before t values sets n) m.job
          ∙ ap (λ x. earliest (tasks_of t) x (released (tasks_of t) (releases sets n) (jobs_before t values sets n))) q_is

      serves_is : found (answer_at t values sets n).served (answer_at t values sets n).task nobody ≡ service t values n (released (tasks_of t) (releases sets n) (jobs_before t values sets n))
      unfolding stepped
      serves_is = ap (λ (a : StepAnswer). found a.served a.task nobody) given ∙ (says_served (earliest (tasks_of t) q (released (tasks_of t) (releases sets n) (job_at (state n)))) ∙ chosen_is)

      late_is : (i : ℕ) → in_set (answer_at t values sets n).late i ≡ (ltb i t.tasks && late (tasks_of t) (releases sets) (service t values) n i)
      unfolding stepped
      late_is i = ap (λ (a : StepAnswer). in_set a.late i) given ∙ elim (le_or_lt t.tasks i) [
        | inl g ↦ in_set_past (set_of is-late t.tasks) t.tasks i (set_small is-late t.tasks) g ∙ sym (ap (λ b. b && late (tasks_of t) (releases sets) (service t values) n i) (le-ltb i t.tasks g))
        | inr l ↦
            in_set_of is-late t.tasks i l
            ∙ (ap (λ j. is_late (age ((tasks_of t).task i) j)) (served_same (tasks_of t) (releases sets n) q (job_at (state n)) (jobs_before t values sets n) m.job i l)
            ∙ (ap (λ x. is_late (age ((tasks_of t).task i) (served (tasks_of t) (releases sets n) (earliest (tasks_of t) x) (jobs_before t values sets n) i))) q_is
            ∙ sym (ap (λ b. b && late (tasks_of t) (releases sets) (service t values) n i) (lt-ltb i t.tasks l))))
      ]
        where
          is-late : ℕ → Bool
          is-late i = is_late (age ((tasks_of t).task i) (served (tasks_of t) (releases sets n) (earliest (tasks_of t) q) (job_at (state n)) i))

      -- only what is ready is released
      ready_is : sets n < 2 ^ 32 → (i : ℕ) → T (releases sets n i) → Ready t values sets n i
      ready_is small i y = elim (le_or_lt 32 i) [
        | inl g ↦ absurd (T_not (in_set (sets n) i) (of_false (in_set (sets n) i) (in_set_past (sets n) 32 i small g)) y)
        | inr l ↦
            let p = accepted_passes t (state n) (sets n) (answer_accepted t (state n) (values n) (sets n) accepted) in
            let on_time = and_fails_right (in_set (sets n) i) _ (first_nobody (is_early t (job_at (state n)) (sets n)) 32 i p.releases l) y in
            let inside = in_table i on_time in
            (inside, omega (arith, since_reached i on_time, ap (λ (j : Job). j.since) (m.job i inside)))
      ]
        where
          in_table : (i : ℕ) → T (not (leb t.tasks i || ltb (job_at (state n) i).since ((tasks_of t).task i).gap)) → i < t.tasks
          in_table i h = elim (le_or_lt t.tasks i) [
            | inl g ↦ absurd (T_not (leb t.tasks i || ltb (job_at (state n) i).since ((tasks_of t).task i).gap) h (or_left (leb t.tasks i) _ (le→leb t.tasks i g)))
            | inr l ↦ l
          ]

          since_reached : (i : ℕ) → T (not (leb t.tasks i || ltb (job_at (state n) i).since ((tasks_of t).task i).gap)) → ((tasks_of t).task i).gap ≤ (job_at (state n) i).since
          since_reached i h = elim (le_or_lt ((tasks_of t).task i).gap (job_at (state n) i).since) [
            | inl l ↦ l
            | inr g ↦ absurd (T_not (leb t.tasks i || ltb (job_at (state n) i).since ((tasks_of t).task i).gap) h (or_right (leb t.tasks i) _ (lt→ltb (job_at (state n) i).since ((tasks_of t).task i).gap g)))
          ]

    -- a step that releases only what is ready is accepted
    accepts : (n : ℕ) → Meets n → ((i : ℕ) → T (releases sets n i) → Ready t values sets n i) → (answer_at t values sets n).refusal ≡ fine
    unfolding stepped
    accepts n m ready =
        let p : Passes t (state n) (sets n) = record { table = judged_fine; state = lawful_of t (state n) m.lawful; releases = first_none (is_early t (job_at (state n)) (sets n)) 0 32 (λ i a b. on_time i) } in
        let e = ap (λ (r : Refusal). r.number) (passes_accepted t (state n) (sets n) p) in
        ap (λ (a : StepAnswer). a.refusal) (step_given t (state n) (sets n) (values n) e)
      where
        on_time : (i : ℕ) → T (not (is_early t (job_at (state n)) (sets n) i))
        on_time i = not_T (is_early t (job_at (state n)) (sets n) i) (λ y.
            let r = ready i (and_left (in_set (sets n) i) _ y) in
            elim (or_cases (leb t.tasks i) (ltb (job_at (state n) i).since ((tasks_of t).task i).gap) (and_right (in_set (sets n) i) _ y)) [
              | inl g ↦ absurd (omega (arith, leb→le t.tasks i g))
              | inr g ↦ absurd (omega (arith, ltb→lt (job_at (state n) i).since ((tasks_of t).task i).gap g, ap (λ (j : Job). j.since) (m.job i r.0)))
            ])

-- ---- all steps

module _ (t : Table) (ranged : Ranged t) (values : ℕ → List ℕ) (sets : ℕ → ℕ) where
  meets : (N : ℕ) → History t values sets N → (n : ℕ) → n ≤ N → Meets t ranged values sets n
  meets N h zero l = meets_fresh t ranged values sets h.start
  meets N h (suc n) l = meets_next t ranged values sets h.start n (meets N h n (omega arith)) (h.step n l)

  pub history_well_formed : (N : ℕ) → History t values sets N → WellFormed t
  history_well_formed N h = well_formed t ranged (no_refusal t ranged values sets h.start)

  pub follows : Inputs values sets → (N : ℕ) → History t values sets N → Obeys t values sets N
  follows inputs N h =
      let before : (n : ℕ) → n < N → Meets t ranged values sets n = λ n l. meets N h n (omega arith) in
      record {
        lawful = λ n l. (meets N h n l).lawful;
        place = λ n l. (meets N h n l).place;
        job = λ n i l. (meets N h n l).job i;
        queue = λ n l. queue_is t ranged values sets h.start n (before n l) (h.step n l);
        serves = λ n l. serves_is t ranged values sets h.start n (before n l) (h.step n l);
        names_late = λ n i l. late_is t ranged values sets h.start n (before n l) (h.step n l) i;
        ready = λ n i l. ready_is t ranged values sets h.start n (before n l) (h.step n l) (inputs.set n) i;
      }

  -- so where every step is accepted, the releases are what the theory accepts
  pub accepted : Inputs values sets → ((N : ℕ) → History t values sets N) → Accepted (tasks_of t) (releases sets) (service t values)
  accepted inputs h n i y = (follows inputs (suc n) (h (suc n))).ready n i (omega arith) y

  -- and conversely: releases of what is ready are accepted, so the history goes on
  pub goes_on : (fresh_answer t).refusal ≡ fine → (N : ℕ) → ((n i : ℕ) → n < N → T (releases sets n i) → Ready t values sets n i) → History t values sets N
  goes_on begins zero ready = record { start = begins; step = λ n l. absurd (omega arith) }
  goes_on begins (suc N) ready =
      let h = goes_on begins N (λ n i l. ready n i (omega arith)) in
      record {
        start = begins;
        step = λ n l. elim (last_or_before n N l) [
          | inl e ↦ subst (λ k. (answer_at t values sets k).refusal ≡ fine) (sym e) (accepts t ranged values sets begins N (meets N h N (le_refl N)) (λ i. ready N i (omega arith)))
          | inr m ↦ h.step n m
        ];
      }
