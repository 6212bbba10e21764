-- Refusals as errors: each has a number above 0, and its number and place tell it. Assumes nothing.
use Rattle.std.proofs.Common.{◌≡◌, refl, sym, ◌∙◌, ap, ap₂, ℕ, suc, [], ◌∷◌, Result, Ok, Err, arith}
use Rattle.std.proofs.Math.ListN.{get_or}
use Rattle.table.specs.declared.Refusal.{Refusal}
use Rattle.table.specs.declared.refused.Refused.{Refused}
use Rattle.table.specs.declared.refused.Reason.{Reason}
use Rattle.table.specs.declared.refused.Reason.TheVariants.{Cut, Field, Count, Value, Shape, Gap, Overlap, Period, Task, Queue, Amount, Never, Horizon, State, Early, Room}
use Rattle.table.specs.Rules.{fine}
use Rattle.table.specs.Reasons.{number, as_refusal, outcome}

-- the reason with a number
reason : ℕ → Reason
reason n = get_or (Room ∷ Cut ∷ Field ∷ Count ∷ Value ∷ Shape ∷ Gap ∷ Overlap ∷ Period ∷ Task ∷ Queue ∷ Amount ∷ Never ∷ Horizon ∷ State ∷ Early ∷ Room ∷ []) n Room

reason_is : (r : Reason) → reason (number r) ≡ r
unfolding reason
reason_is = elim [ Cut ↦ refl | Field ↦ refl | Count ↦ refl | Value ↦ refl | Shape ↦ refl | Gap ↦ refl | Overlap ↦ refl | Period ↦ refl | Task ↦ refl | Queue ↦ refl | Amount ↦ refl | Never ↦ refl | Horizon ↦ refl | State ↦ refl | Early ↦ refl | Room ↦ refl ]

-- no reason has the number of no refusal
pub number_some : (r : Reason) → (k : ℕ) × (number r ≡ suc k)
number_some = elim [ Cut ↦ (0, refl) | Field ↦ (1, refl) | Count ↦ (2, refl) | Value ↦ (3, refl) | Shape ↦ (4, refl) | Gap ↦ (5, refl) | Overlap ↦ (6, refl) | Period ↦ (7, refl) | Task ↦ (8, refl) | Queue ↦ (9, refl) | Amount ↦ (10, refl) | Never ↦ (11, refl) | Horizon ↦ (12, refl) | State ↦ (13, refl) | Early ↦ (14, refl) | Room ↦ (15, refl) ]

pub not_zero : (r : Refused) → number r.reason ≡ 0 → ⊥
not_zero r e =
    let (k, n) = number_some r.reason in
    let z : suc k ≡ 0 = sym n ∙ e in
    absurd (omega arith)

pub not_fine : (r : Refused) → as_refusal r ≡ fine → ⊥
not_fine r e = not_zero r (ap (λ (a : Refusal). a.number) e)

pub as_refusal_same : (r s : Refused) → as_refusal r ≡ as_refusal s → r ≡ s
as_refusal_same r s e =
    let number_same : number r.reason ≡ number s.reason = ap (λ (a : Refusal). a.number) e in
    let place_same : r.place ≡ s.place = ap (λ (a : Refusal). a.place) e in
    let made : Reason → ℕ → Refused = λ x p. record { reason = x; place = p } in
    ap₂ made (sym (reason_is r.reason) ∙ (ap reason number_same ∙ reason_is s.reason)) place_same

-- a result without a value is told by its refusal
pub outcome_tells : (x y : Result (Unit {0}) Refused) → outcome x ≡ outcome y → x ≡ y
outcome_tells (Ok a) (Ok b) e = refl
outcome_tells (Ok a) (Err s) e = absurd (not_fine s (sym e))
outcome_tells (Err r) (Ok b) e = absurd (not_fine r e)
outcome_tells (Err r) (Err s) e = ap Err (as_refusal_same r s e)
