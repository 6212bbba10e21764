-- The fresh state is lawful, and an accepted step hands back a lawful state: the place moves to a location of the table and stays within its ticks, the theory keeps
-- each job lawful, and the entries past the tasks are written 0. Assumes nothing.
use mathlib.Core.Path.{◌≡◌, sym, ap, subst}
use mathlib.Core.Logic.{inl, inr}
use mathlib.Core.List.{List}
use Prim.Native.Nat.{ℕ, suc, ◌<◌}
use native.Mathlib.Omega.{arith}
use Rattle.laws.specs.Bits.{in_set}
use Rattle.laws.proofs.Test.{le_or_lt}
use Rattle.theory.specs.Tree.{Position, grant}
use Rattle.theory.specs.Guards.{onto, move}
use Rattle.theory.specs.Job.{Job, fresh, LawfulJob}
use Rattle.theory.specs.Steps.{step, earliest}
use Rattle.theory.proofs.Walk.{move_stays, move_leads}
use Rattle.theory.proofs.Lawful.{fresh_lawful, stays_lawful}
use Rattle.table.specs.declared.Table.{Table}
use Rattle.table.specs.declared.Refusal.{Refusal}
use Rattle.table.specs.Table.{tree_of, tasks_of}
use Rattle.table.specs.Rules.{fine, WellFormed}
use Rattle.table.specs.Ranged.{Ranged}
use Rattle.job.specs.Entry.{job_of}
use Rattle.jobs.proofs.Rows.{row_at, row_past}
use Rattle.runner.specs.declared.State.{State}
use Rattle.runner.specs.State.{job_at, position_of, state_of, Lawful, fresh_state, fresh_answer}
use Rattle.runner.specs.Step.{value_at, step_refusal, stepped, step_answer}
use Rattle.runner.proofs.Leads.{onto_inside}
use Rattle.runner.proofs.Agrees.{lawful_says}
use Rattle.runner.proofs.Refusals.{well_formed, fresh_given, step_refused, step_given, accepted_passes}

-- a position that stands in the table
abbrev pub Stands : Table → Position → Type 0
Stands t p = (p.location < t.locations) × (p.done < (tree_of t).ticks p.location)

module _ (t : Table) (w : WellFormed t) where
  state_lawful : (p : Position) (js : ℕ → Job) → Stands t p → ((i : ℕ) → i < t.tasks → LawfulJob ((tasks_of t).task i) (js i)) → Lawful t (state_of t p js)
  state_lawful p js h each = record {
    location = h.0;
    done = h.1;
    job = λ i l. subst (LawfulJob ((tasks_of t).task i)) (sym (row_at js t.tasks i w.tasks l)) (each i l);
    past = λ i g l. ap job_of (row_past js t.tasks i g);
  }

  pub root_stands : Stands t (record { location = 0; done = 0 })
  root_stands = (w.formed.root, w.formed.spends 0 w.formed.root)

  pub move_stands : (values : ℕ → ℕ) (p : Position) → Stands t p → Stands t (move (tree_of t) values p)
  move_stands values p h = elim (le_or_lt ((tree_of t).ticks p.location) (suc p.done)) [
    | inl l ↦
        let v = onto (tree_of t) p.location (values ((tree_of t).variable p.location)) in
        let inside = onto_inside (tree_of t) p.location (values ((tree_of t).variable p.location)) w.formed.root in
        subst (Stands t) (sym (move_leads (tree_of t) values p (omega (arith, h.1)))) (inside, w.formed.spends v inside)
    | inr l ↦ subst (Stands t) (sym (move_stays (tree_of t) values p l)) (h.0, l)
  ]

  fresh_keeps : Lawful t (fresh_state t)
  fresh_keeps = state_lawful (record { location = 0; done = 0 }) (λ i. fresh ((tasks_of t).task i)) root_stands (λ i l. fresh_lawful ((tasks_of t).task i) (w.task i l).2)

  step_keeps : (s : State) (values : List ℕ) (set : ℕ) → Lawful t s → Lawful t (stepped t s values set).state
  unfolding stepped
  step_keeps s values set h =
      state_lawful (move (tree_of t) (value_at values) (position_of s)) (step (tasks_of t) (in_set set) (earliest (tasks_of t) (grant (tree_of t) (position_of s))) (job_at s))
      (move_stands (value_at values) (position_of s) (h.location, h.done))
      (λ i l. stays_lawful (tasks_of t) (in_set set) (earliest (tasks_of t) (grant (tree_of t) (position_of s))) (job_at s) i (w.task i l).2 (h.job i l))

-- ---- the answers

pub fresh_is_lawful : (t : Table) → Ranged t → (fresh_answer t).refusal ≡ fine → Lawful t (fresh_answer t).state
unfolding fresh_answer
fresh_is_lawful t r e =
    let z = ap (λ (x : Refusal). x.number) e in
    subst (λ a. Lawful t a.state) (sym (fresh_given t z)) (fresh_keeps t (well_formed t r z))

-- an answer without a refusal is the one of the rules
pub answer_accepted : (t : Table) (s : State) (values : List ℕ) (set : ℕ) → (step_answer t s values set).refusal ≡ fine → (step_refusal t s set).number ≡ 0
answer_accepted t s values set e = elim (le_or_lt (step_refusal t s set).number 0) [
  | inl l ↦ omega arith
  | inr l ↦
      let r = ap (λ a. a.refusal.number) (step_refused t s set values (λ z. absurd (omega arith))) in
      omega (arith, r, ap (λ (x : Refusal). x.number) e)
]

pub step_lawful : (t : Table) → Ranged t → (s : State) (values : List ℕ) (set : ℕ) → (step_answer t s values set).refusal ≡ fine → Lawful t (step_answer t s values set).state
step_lawful t r s values set e =
    let n = answer_accepted t s values set e in
    let p = accepted_passes t s set n in
    let w = well_formed t r (ap (λ (x : Refusal). x.number) p.table) in
    subst (λ a. Lawful t a.state) (sym (step_given t s set values n)) (step_keeps t w s values set (lawful_says t s p.state))
