-- What `fresh` and `step` answer with and without a refusal, as results too; and what a step with no refusal has found: a table that is fine, a lawful state, and no
-- release that is early. Assumes nothing.
use mathlib.Core.Path.{◌≡◌, refl, sym, ap, ap₂, ◌∙◌}
use mathlib.Core.Bool.{Bool, true, false, not}
use mathlib.Core.List.{List}
use Prim.Native.Nat.{ℕ, zero, suc}
use native.Mathlib.Omega.{arith}
use lib.Dec.{T}
use Rattle.std.proofs.Common.{Option, Ok, Err}
use Rattle.laws.specs.Found.{Found, nobody, at}
use Rattle.laws.proofs.Cases.{is_true}
use Rattle.table.specs.declared.Table.{Table}
use Rattle.table.specs.declared.Refusal.{Refusal}
use Rattle.table.specs.declared.refused.Refused.{Refused}
use Rattle.table.specs.Reasons.{as_refusal}
use Rattle.table.specs.Rules.{fine, refusal, refuse, found_if, judged, WellFormed}
use Rattle.table.specs.Ranged.{Ranged}
use Rattle.table.proofs.Reasons.{number_some}
use Rattle.table.proofs.Unbroken.{refused_number}
use Rattle.table.proofs.WellFormed.{judged_well_formed}
use Rattle.runner.specs.declared.State.{State}
use Rattle.jobs.specs.Entries.{choice_of, chosen_by}
use Rattle.jobs.proofs.Service.{says_chosen}
use Rattle.runner.specs.State.{job_at, is_lawful, fresh_state, empty_state, unless, fresh_answer, fresh_answered}
use Rattle.runner.specs.Step.{early_task, state_refusal, step_refusal, stepped, refused_step, step_answer, step_answered}

pub unless_given : {A : Type 0} (n : ℕ) (a b : A) → n ≡ 0 → unless n a b ≡ a
unless_given n a b e = rw e

pub unless_refused : {A : Type 0} (n : ℕ) (a b : A) → (n ≡ 0 → ⊥) → unless n a b ≡ b
unless_refused zero a b h = absurd (h refl)
unless_refused (suc n) a b h = refl

-- the numbers of a table are in their ranges, so one that is not refused is well formed
pub well_formed : (t : Table) → Ranged t → (judged t).number ≡ 0 → WellFormed t
well_formed t r e = judged_well_formed t (λ v l. omega (arith, (r.location v).high)) (refused_number t e)

-- an error is a refusal with a number
some_number : (e : Refused) (r : Refusal) → as_refusal e ≡ r → r.number ≡ 0 → ⊥
some_number e r is z =
    let (k, n) = number_some e.reason in
    absurd (omega (arith, n, ap (λ (r : Refusal). r.number) is))

-- ---- the fresh state

pub fresh_judged : (t : Table) → (fresh_answer t).refusal ≡ judged t
unfolding fresh_answer
fresh_judged t = refl

pub fresh_refused : (t : Table) → ((judged t).number ≡ 0 → ⊥) → fresh_answer t ≡ record { refusal = judged t; state = empty_state }
unfolding fresh_answer
fresh_refused t n = λ i. record { refusal = judged t; state = unless_refused (judged t).number (fresh_state t) empty_state n i }

pub fresh_given : (t : Table) → (judged t).number ≡ 0 → fresh_answer t ≡ record { refusal = judged t; state = fresh_state t }
unfolding fresh_answer
fresh_given t e = λ i. record { refusal = judged t; state = unless_given (judged t).number (fresh_state t) empty_state e i }

pub fresh_err : (t : Table) (e : Refused) → as_refusal e ≡ judged t → fresh_answered (Err e) ≡ fresh_answer t
fresh_err t e is = (λ i. record { refusal = is i; state = empty_state }) ∙ sym (fresh_refused t (some_number e (judged t) is))

pub fresh_ok : (t : Table) (s : State) → fine ≡ judged t → s ≡ fresh_state t → fresh_answered (Ok s) ≡ fresh_answer t
fresh_ok t s is fresh = (λ i. record { refusal = is i; state = fresh i }) ∙ sym (fresh_given t (ap (λ (r : Refusal). r.number) (sym is)))

-- ---- a step

state_first : (b : Bool) (o : Found) → (refuse 14 (λ v. 0) (found_if (not b)) (refuse 15 (λ i. i) o fine)).number ≡ 0 → T b × (o ≡ nobody)
state_first true nobody e = (tt, refl)
state_first true (at i) e = absurd (omega arith)
state_first false o e = absurd (omega arith)

pub record Passes (t : Table) (s : State) (set : ℕ) : Type 0 where
  pub table : judged t ≡ fine
  pub state : T (is_lawful t s)
  pub releases : early_task t (job_at s) set ≡ nobody

-- a table's refusal has a number above 0
table_first : (n : ℕ) (next r : Refusal) → r.number ≡ n → (unless n next r).number ≡ 0 → (n ≡ 0) × (next.number ≡ 0)
table_first zero next r h e = (refl, e)
table_first (suc n) next r h e = absurd (omega arith)

module _ (t : Table) (s : State) (set : ℕ) where
  pub table_refuses : ((judged t).number ≡ 0 → ⊥) → step_refusal t s set ≡ judged t
  unfolding step_refusal
  table_refuses n = unless_refused (judged t).number (state_refusal t s set) (judged t) n

  pub table_passes : (judged t).number ≡ 0 → step_refusal t s set ≡ state_refusal t s set
  unfolding step_refusal
  table_passes e = unless_given (judged t).number (state_refusal t s set) (judged t) e

  pub step_refused : (values : List ℕ) → ((step_refusal t s set).number ≡ 0 → ⊥) → step_answer t s values set ≡ refused_step (step_refusal t s set) s
  unfolding step_answer
  step_refused values n = unless_refused (step_refusal t s set).number (stepped t s values set) (refused_step (step_refusal t s set) s) n

  pub step_given : (values : List ℕ) → (step_refusal t s set).number ≡ 0 → step_answer t s values set ≡ stepped t s values set
  unfolding step_answer
  step_given values e = unless_given (step_refusal t s set).number (stepped t s values set) (refused_step (step_refusal t s set) s) e

  pub accepted_passes : (step_refusal t s set).number ≡ 0 → Passes t s set
  unfolding step_refusal
  accepted_passes e =
      let (z, f) = table_first (judged t).number (state_refusal t s set) (judged t) refl e in
      let (y, o) = state_first (is_lawful t s) (early_task t (job_at s) set) f in
      record { table = refused_number t z; state = y; releases = o }

  pub passes_accepted : Passes t s set → step_refusal t s set ≡ fine
  passes_accepted p =
      table_passes (ap (λ (r : Refusal). r.number) p.table)
      ∙ ap₂ (λ b o. refuse 14 (λ v. 0) (found_if (not b)) (refuse 15 (λ i. i) o fine)) (is_true (is_lawful t s) p.state) p.releases

  -- ---- as a result

  pub step_err : (values : List ℕ) (e : Refused) → as_refusal e ≡ step_refusal t s set → step_answered s (Err e) ≡ step_answer t s values set
  step_err values e is = ap (λ r. refused_step r s) is ∙ sym (step_refused values (some_number e (step_refusal t s set) is))

  pub table_err : (e : Refused) → as_refusal e ≡ judged t → as_refusal e ≡ step_refusal t s set
  table_err e is = is ∙ sym (table_refuses (some_number e (judged t) is))

  module _ (fits : fine ≡ judged t) where
    in_order : (r : Refusal) → r ≡ state_refusal t s set → r ≡ step_refusal t s set
    in_order r is = is ∙ sym (table_passes (ap (λ (r : Refusal). r.number) (sym fits)))

    pub state_err : is_lawful t s ≡ false → refusal 14 0 ≡ step_refusal t s set
    state_err e = in_order (refusal 14 0) (rw e)

    pub early_says : is_lawful t s ≡ true → (o : Option ℕ) → choice_of (early_task t (job_at s) set) ≡ o → refuse 15 (λ i. i) (chosen_by o) fine ≡ step_refusal t s set
    early_says lawful o e =
        let found : early_task t (job_at s) set ≡ chosen_by o = sym (says_chosen (early_task t (job_at s) set)) ∙ ap chosen_by e in
        in_order (refuse 15 (λ i. i) (chosen_by o) fine) (rw (lawful, found))
