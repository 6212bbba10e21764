-- The judge answers 0 exactly where no rule is broken: each refusal has a number above 0 and stands before what comes next.
-- Assumes nothing.
use mathlib.Core.Path.{◌≡◌, refl, ap, ◌∙◌}
use mathlib.Core.Bool.{Bool, true, false, not}
use Prim.Native.Nat.{ℕ, suc, ◌<◌}
use native.Mathlib.Omega.{arith}
use lib.Dec.{T}
use Rattle.laws.specs.Found.{Found, nobody, at}
use Rattle.laws.proofs.First.{first_none, first_nobody}
use Rattle.table.specs.declared.Table.{Table}
use Rattle.table.specs.declared.Refusal.{Refusal}
use Rattle.table.specs.Rules.{breaks_count, breaks_header, breaks_value, breaks_shape, breaks_gap, breaks_overlap, breaks_period, breaks_task, fine, refuse, found_if, location_place, task_place, judged}

-- neither the header nor a location nor a task breaks a rule
pub record Unbroken (t : Table) : Type 0 where
  pub count : T (not (breaks_count t))
  pub header : T (not (breaks_header t))
  pub value : (v : ℕ) → v < t.locations → T (not (breaks_value t v))
  pub shape : (v : ℕ) → v < t.locations → T (not (breaks_shape t v))
  pub gap : (v : ℕ) → v < t.locations → T (not (breaks_gap t v))
  pub overlap : (v : ℕ) → v < t.locations → T (not (breaks_overlap t v))
  pub period : (v : ℕ) → v < t.locations → T (not (breaks_period t v))
  pub task : (i : ℕ) → i < t.tasks → T (not (breaks_task t i))

-- ---- one rule

-- where the answer is 0, nothing was found, and what comes next is 0
passes : (n : ℕ) (place : ℕ → ℕ) (o : Found) (next : Refusal) → (refuse (suc n) place o next).number ≡ 0 → (o ≡ nobody) × (next.number ≡ 0)
passes n place nobody next e = (refl, e)
passes n place (at v) next e = absurd (omega arith)

pub refuse_nobody : (n : ℕ) (place : ℕ → ℕ) (o : Found) (next : Refusal) → o ≡ nobody → refuse n place o next ≡ next
refuse_nobody n place o next e = rw e

unfound : (b : Bool) → found_if b ≡ nobody → T (not b)
unfound true e = absurd (omega (arith, ap (λ o. (refuse 1 (λ v. 0) o fine).number) e))
unfound false e = tt

not_found : (b : Bool) → T (not b) → found_if b ≡ nobody
not_found true h = absurd h
not_found false h = refl

-- ---- all rules

pub unbroken : (t : Table) → (judged t).number ≡ 0 → Unbroken t
unfolding judged
unbroken t e =
    let (a, e₁) = passes 2 (λ v. 0) _ _ e in
    let (b, e₂) = passes 3 (λ v. 0) _ _ e₁ in
    let (c, e₃) = passes 3 location_place _ _ e₂ in
    let (d, e₄) = passes 4 location_place _ _ e₃ in
    let (f, e₅) = passes 5 location_place _ _ e₄ in
    let (g, e₆) = passes 6 location_place _ _ e₅ in
    let (h, e₇) = passes 7 location_place _ _ e₆ in
    let (k, e₈) = passes 8 (task_place t) _ _ e₇ in
    record {
      count = unfound (breaks_count t) a;
      header = unfound (breaks_header t) b;
      value = λ v. first_nobody (breaks_value t) t.locations v c;
      shape = λ v. first_nobody (breaks_shape t) t.locations v d;
      gap = λ v. first_nobody (breaks_gap t) t.locations v f;
      overlap = λ v. first_nobody (breaks_overlap t) t.locations v g;
      period = λ v. first_nobody (breaks_period t) t.locations v h;
      task = λ i. first_nobody (breaks_task t) t.tasks i k;
    }

pub unbroken_fine : (t : Table) → Unbroken t → judged t ≡ fine
unfolding judged
unbroken_fine t u =
    refuse_nobody 3 (λ v. 0) _ _ (not_found (breaks_count t) u.count)
    ∙ refuse_nobody 4 (λ v. 0) _ _ (not_found (breaks_header t) u.header)
    ∙ refuse_nobody 4 location_place _ _ (first_none (breaks_value t) 0 t.locations (λ v z l. u.value v (omega arith)))
    ∙ refuse_nobody 5 location_place _ _ (first_none (breaks_shape t) 0 t.locations (λ v z l. u.shape v (omega arith)))
    ∙ refuse_nobody 6 location_place _ _ (first_none (breaks_gap t) 0 t.locations (λ v z l. u.gap v (omega arith)))
    ∙ refuse_nobody 7 location_place _ _ (first_none (breaks_overlap t) 0 t.locations (λ v z l. u.overlap v (omega arith)))
    ∙ refuse_nobody 8 location_place _ _ (first_none (breaks_period t) 0 t.locations (λ v z l. u.period v (omega arith)))
    ∙ refuse_nobody 9 (task_place t) _ _ (first_none (breaks_task t) 0 t.tasks (λ i z l. u.task i (omega arith)))

-- number 0 is no refusal
pub refused_number : (t : Table) → (judged t).number ≡ 0 → judged t ≡ fine
refused_number t e = unbroken_fine t (unbroken t e)
