-- Accepted steps go on for ever: with nothing released after the first N steps, every later step is accepted, and the first N answer as before. Assumes nothing.
use mathlib.Core.Path.{◌≡◌, refl, sym, ap, ap₂, ◌∙◌, subst}
use mathlib.Core.Bool.{not}
use mathlib.Core.Logic.{inl, inr}
use mathlib.Core.List.{List}
use Prim.Native.Nat.{ℕ, zero, suc, ◌≤◌, ◌<◌}
use native.Mathlib.Omega.{arith}
use lib.Dec.{T, T_not, ltb, lt→ltb}
use lib.Arith.{le→nltb}
use Rattle.laws.specs.Test.{pick}
use Rattle.laws.specs.Bits.{in_set}
use Rattle.laws.proofs.Test.{le_or_lt, pick_yes, pick_no}
use Rattle.laws.proofs.Bits.{in_set_past}
use Rattle.laws.proofs.Cases.{of_false}
use Rattle.table.specs.declared.Table.{Table}
use Rattle.table.specs.Ranged.{Ranged}
use Rattle.runner.specs.declared.State.{State}
use Rattle.runner.specs.declared.StepAnswer.{StepAnswer}
use Rattle.runner.specs.Step.{step_answer}
use Rattle.runner.specs.History.{Inputs, state_at, answer_at, History, releases}
use Rattle.runner.proofs.Follows.{follows, goes_on}

-- the sets of the first N steps, and then nothing
abbrev pub stopped : (ℕ → ℕ) → ℕ → ℕ → ℕ
stopped sets N n = pick (ltb n N) (sets n) 0

module _ (t : Table) (values : ℕ → List ℕ) (sets : ℕ → ℕ) (N : ℕ) where
  set_same : (n : ℕ) → n < N → sets n ≡ stopped sets N n
  set_same n l = sym (pick_yes (ltb n N) (sets n) 0 (lt→ltb n N l))

  state_same : (n : ℕ) → n ≤ N → state_at t values sets n ≡ state_at t values (stopped sets N) n
  unfolding state_at
  state_same zero l = refl
  state_same (suc n) l =
      ap₂ (λ (s : State) x. (step_answer t s (values n) x).state) (state_same n (omega arith)) (set_same n l)

  pub answer_same : (n : ℕ) → n < N → answer_at t values sets n ≡ answer_at t values (stopped sets N) n
  answer_same n l = ap₂ (λ (s : State) x. step_answer t s (values n) x) (state_same n (omega arith)) (set_same n l)

  pub inputs_same : Inputs values sets → Inputs values (stopped sets N)
  inputs_same inputs = record {
    value = inputs.value;
    set = λ n. elim (le_or_lt N n) [
      | inl l ↦ omega (arith, pick_no (ltb n N) (sets n) 0 (le→nltb n N l), inputs.set n)
      | inr l ↦ omega (arith, pick_yes (ltb n N) (sets n) 0 (lt→ltb n N l), inputs.set n)
    ];
  }

  pub for_ever : Ranged t → Inputs values sets → History t values sets N → (M : ℕ) → History t values (stopped sets N) M
  for_ever ranged inputs h M = goes_on t ranged values (stopped sets N) h.start M (λ n i l y. elim (le_or_lt N n) [
    | inl g ↦ absurd (T_not (releases (stopped sets N) n i) (nothing n i g) y)
    | inr g ↦ (follows t ranged values (stopped sets N) (inputs_same inputs) N first).ready n i g y
  ])
    where
      first : History t values (stopped sets N) N
      first = record { start = h.start; step = λ n l. ap (λ (a : StepAnswer). a.refusal) (sym (answer_same n l)) ∙ h.step n l }

      nothing : (n i : ℕ) → N ≤ n → T (not (releases (stopped sets N) n i))
      nothing n i g =
          subst (λ x. T (not (in_set x i))) (sym (pick_no (ltb n N) (sets n) 0 (le→nltb n N g)))
          (of_false (in_set 0 i) (in_set_past 0 0 i (omega arith) (omega arith)))
