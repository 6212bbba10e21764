-- One refusal after the other: the first that applies stands, and number 0 says that none does. Assumes nothing.
use mathlib.Core.Path.{◌≡◌, refl, sym, ap, ◌∙◌}
use mathlib.Core.Bool.{Bool, true, false, not}
use mathlib.Core.Logic.{inl, inr}
use Prim.Native.Nat.{ℕ, zero, suc, ◌*◌, ◌≤◌}
use native.Mathlib.Omega.{arith}
use lib.Dec.{T_not, ltb, leb, leb→le, eqb, eqb→eq}
use borrow.Author.Tests.{ltb-false}
use Rattle.laws.proofs.Test.{either, and_left, and_right, eqb_of}
use Rattle.laws.proofs.Cases.{of_false, not_not}
use Rattle.table.specs.declared.Table.{Table}
use Rattle.table.specs.declared.Refusal.{Refusal}
use Rattle.table.specs.declared.refused.Refused.{Refused}
use Rattle.table.specs.Reasons.{as_refusal}
use Rattle.table.proofs.Reasons.{not_zero}
use Rattle.table.specs.Ranged.{Ranged}
use Rattle.table.specs.Rules.{within, fine, judged, WellFormed}
use Rattle.table.proofs.Unbroken.{unbroken, unbroken_fine}
use Rattle.table.proofs.WellFormed.{judged_well_formed}
use Rattle.bounds.specs.Questions.{refuse_if, also, queue_refusal, window_refusal, fill_refusal}

-- nothing is refused
abbrev pub Passes : Refusal → Type 0
Passes r = r.number ≡ 0

-- refused or not
pub passes_or : (r : Refusal) (A : Type 0) → (Passes r → A) → (¬ Passes r → A) → A
passes_or r A y n = elim (either (eqb r.number 0)) [
  | inl t ↦ y (eqb→eq r.number 0 t)
  | inr t ↦ n (λ e. T_not (eqb r.number 0) t (eqb_of r.number 0 e))
]

module _ (r : Refusal) (broken : Bool) (n : ℕ) where
  -- the answer, by the number that is there already
  abbrev by : ℕ → Refusal
  by (suc m) = r
  by zero = refuse_if broken n

  pub also_refused : (r.number ≡ 0 → ⊥) → also r broken n ≡ r
  also_refused h = go r.number refl
    where
      go : (k : ℕ) → r.number ≡ k → also r broken n ≡ r
      go zero e = absurd (h e)
      go (suc k) e = ap by e

  pub also_passed : r.number ≡ 0 → also r broken n ≡ refuse_if broken n
  also_passed e = ap by e

-- an error stands, and where nothing is refused the test decides
module _ (r : Refusal) (broken : Bool) (n : ℕ) where
  pub also_err : (e : Refused) → as_refusal e ≡ r → as_refusal e ≡ also r broken n
  also_err e is = is ∙ sym (also_refused r broken n (λ z. not_zero e (ap (λ (x : Refusal). x.number) is ∙ z)))

  pub also_ok : fine ≡ r → refuse_if broken n ≡ also r broken n
  also_ok is = sym (also_passed r broken n (ap (λ (x : Refusal). x.number) (sym is)))

-- number 0 says that nothing is broken
pub also_none : (r : Refusal) (broken : Bool) (n : ℕ) → (also r broken (suc n)).number ≡ 0 → (r.number ≡ 0) × (broken ≡ false)
also_none r broken n z = go r.number refl
  where
    none : (b : Bool) → (refuse_if b (suc n)).number ≡ 0 → b ≡ false
    none true e = absurd (omega arith)
    none false e = refl

    go : (k : ℕ) → r.number ≡ k → (r.number ≡ 0) × (broken ≡ false)
    go zero e = (e, none broken (ap (λ (x : Refusal). x.number) (ap (by r broken (suc n)) (sym e)) ∙ z))
    go (suc k) e = absurd (omega (arith, ap (λ (x : Refusal). x.number) (ap (by r broken (suc n)) e)))

-- ---- what is known where nothing is refused

module _ (t : Table) (q : ℕ) where
  passes : (r : Refusal) → fine ≡ r → Passes r
  passes r e = sym (ap (λ (x : Refusal). x.number) e)

  pub queue_known : fine ≡ queue_refusal t q → (1 ≤ q) × (q ≤ t.queues)
  unfolding queue_refusal
  queue_known e =
      let (z, f) = also_none (judged t) (not (within 1 t.queues q)) 9 (passes _ e) in
      let w = not_not (within 1 t.queues q) (of_false (not (within 1 t.queues q)) f) in
      (leb→le 1 q (and_left (leb 1 q) _ w), leb→le q t.queues (and_right (leb 1 q) _ w))

  queue_fine : (queue_refusal t q).number ≡ 0 → fine ≡ queue_refusal t q
  unfolding queue_refusal
  queue_fine z =
      let (e, f) = also_none (judged t) (not (within 1 t.queues q)) 9 z in
      ap (λ b. refuse_if b 10) (sym f) ∙ also_ok (judged t) (not (within 1 t.queues q)) 10 (sym (unbroken_fine t (unbroken t e)))

  pub window_known : (w : ℕ) → fine ≡ window_refusal t q w → (1 ≤ q) × (w ≤ 2000000)
  unfolding window_refusal
  window_known w e =
      let (z, f) = also_none (queue_refusal t q) (ltb 2000000 w) 10 (passes _ e) in
      ((queue_known (queue_fine z)).0, omega (arith, ltb-false 2000000 w f))

  pub room_known : (room : ℕ) → fine ≡ fill_refusal t q room → (1 ≤ q) × (2 * t.period ≤ room)
  unfolding fill_refusal
  room_known room e =
      let (z, f) = also_none (queue_refusal t q) (ltb room (2 * t.period)) 15 (passes _ e) in
      ((queue_known (queue_fine z)).0, omega (arith, ltb-false room (2 * t.period) f))

-- ---- what an answer of number 0 says

pub record Asked (t : Table) (q : ℕ) : Type 0 where
  pub well_formed : WellFormed t
  pub some : 1 ≤ q
  pub known : q ≤ t.queues

module _ (t : Table) (ranged : Ranged t) (q : ℕ) where
  pub queue_asked : (queue_refusal t q).number ≡ 0 → Asked t q
  unfolding queue_refusal
  queue_asked z =
      let (e, f) = also_none (judged t) (not (within 1 t.queues q)) 9 z in
      let w = not_not (within 1 t.queues q) (of_false (not (within 1 t.queues q)) f) in
      record {
        well_formed = judged_well_formed t (λ v l. omega (arith, (ranged.location v).high)) (unbroken_fine t (unbroken t e));
        some = leb→le 1 q (and_left (leb 1 q) _ w);
        known = leb→le q t.queues (and_right (leb 1 q) _ w);
      }

  pub window_asked : (w : ℕ) → (window_refusal t q w).number ≡ 0 → Asked t q × (w ≤ 2000000)
  unfolding window_refusal
  window_asked w z =
      let (e, f) = also_none (queue_refusal t q) (ltb 2000000 w) 10 z in
      (queue_asked e, omega (arith, ltb-false 2000000 w f))

  pub room_asked : (room : ℕ) → (fill_refusal t q room).number ≡ 0 → Asked t q × (2 * t.period ≤ room)
  unfolding fill_refusal
  room_asked room z =
      let (e, f) = also_none (queue_refusal t q) (ltb room (2 * t.period)) 15 z in
      (queue_asked e, omega (arith, ltb-false room (2 * t.period) f))
