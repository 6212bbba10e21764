-- Refusals in order and what stands beside them: one that is there stands, else the next test decides. A slice of 2,048 entries has room
-- for the filling of every table. Assumes nothing.
use mathlib.Core.Path.{◌≡◌, refl, sym, ap, ◌∙◌}
use mathlib.Core.Bool.{Bool, true, false, not}
use mathlib.Core.Logic.{inl, inr}
use Prim.Native.Nat.{ℕ, ◌*◌, ◌≤◌, ◌<◌}
use native.Mathlib.Omega.{arith}
use lib.Dec.{T, not_T, leb, le→leb, leb→le, ltb, eqb}
use borrow.Author.Tests.{lt-ltb, le-ltb}
use Rattle.std.proofs.Common.{Ok}
use Rattle.laws.proofs.Test.{either, and_left, and_right, and_both, eqb_of, neqb_of}
use Rattle.laws.proofs.Cases.{is_true, is_false}
use Rattle.theory.specs.Search.{lcm_of}
use Rattle.table.specs.declared.Table.{Table}
use Rattle.table.specs.declared.Refusal.{Refusal}
use Rattle.table.specs.declared.refused.Refused.{Refused}
use Rattle.table.specs.declared.refused.Reason.TheVariants.{Amount}
use Rattle.table.specs.Table.{tasks_of}
use Rattle.table.specs.Ranged.{Ranged}
use Rattle.table.specs.Reasons.{as_refusal}
use Rattle.table.specs.Rules.{within, refusal, fine, judged}
use Rattle.table.proofs.Reasons.{not_zero}
use Rattle.bounds.specs.declared.TicksAnswer.{TicksAnswer}
use Rattle.bounds.specs.Questions.{refuse_if, also, queue_refusal, fill_refusal, Answer}
use Rattle.bounds.proofs.Refused.{Passes, passes_or, also_refused, also_passed, also_err, also_ok, also_none, queue_asked}
use Rattle.search.specs.declared.Verdict as search
use Rattle.search.specs.declared.VerdictAnswer.{VerdictAnswer}
use Rattle.search.specs.declared.Verdict.TheVariants.{Meets, Short}
use Rattle.search.specs.Answers.{refused_answer, Verdict}
use Rattle.search.specs.Answered.{verdict_answered}
use Rattle.verdict.specs.Questions.{horizon_refusal, amount_refusal, wait_refusal, VerdictAnswers}

-- ---- tests

pub within_low : (a b x : ℕ) → x < a → T (not (within a b x))
within_low a b x l = not_T (within a b x) (λ y. absurd (omega (arith, leb→le a x (and_left (leb a x) _ y))))

pub within_high : (a b x : ℕ) → b < x → T (not (within a b x))
within_high a b x l = not_T (within a b x) (λ y. absurd (omega (arith, leb→le x b (and_right (leb a x) _ y))))

-- ---- the queue

module _ (t : Table) (q : ℕ) where
  pub asked_fine : Passes (queue_refusal t q) → queue_refusal t q ≡ fine
  unfolding queue_refusal
  asked_fine e =
      let broken = not (within 1 t.queues q) in
      let (p, b) = also_none (judged t) broken 9 e in
      also_passed (judged t) broken 10 p ∙ ap (λ b. refuse_if b 10) b

  -- there is room for two periods
  pub fill_asked : Ranged t → fill_refusal t q 2048 ≡ queue_refusal t q
  unfolding fill_refusal
  fill_asked range =
      let asked = queue_refusal t q in
      let broken = ltb 2048 (2 * t.period) in
      passes_or asked (also asked broken 16 ≡ asked)
      (λ e.
      let room : broken ≡ false = le-ltb 2048 (2 * t.period) (omega (arith, (queue_asked t range q e).well_formed.period)) in
      also_passed asked broken 16 e ∙ (ap (λ b. refuse_if b 16) room ∙ sym (asked_fine e)))
      (λ n. also_refused asked broken 16 n)

-- ---- answers

-- an error has a number
pub refuses : (e : Refused) (r : Refusal) → as_refusal e ≡ r → ¬ (r.number ≡ 0)
refuses e r is z = not_zero e (ap (λ (a : Refusal). a.number) is ∙ z)

-- zeros beside a refusal
pub refused_answer_law : (r : Refusal) (A : ℕ → Type 0) (a : TicksAnswer) → ¬ Passes r → a.refusal ≡ r → a.ticks ≡ 0 → Answer r A a
refused_answer_law r A a n e z = record { refusal = e; says = λ p. absurd (n p); silent = λ p. z }

pub given_answer : (r : Refusal) (A : ℕ → Type 0) (a : TicksAnswer) → r ≡ fine → a.refusal ≡ r → A a.ticks → Answer r A a
given_answer r A a f e x = record { refusal = e; says = λ p. x; silent = λ n. absurd (n (ap (λ (s : Refusal). s.number) f)) }

pub verdict_refused : (t : Table) (q : ℕ) (a : VerdictAnswer) (r : Refusal) → horizon_refusal t q ≡ r → ¬ Passes r → a ≡ refused_answer r → VerdictAnswers t q a
verdict_refused t q a r h n e =
    rw e
    (record {
      refusal = sym h;
      says = λ p. absurd (n (ap (λ (s : Refusal). s.number) (sym h) ∙ p));
      silent = λ p. (refl, (refl, refl, refl));
    })

pub verdict_given : (t : Table) (q : ℕ) (a : VerdictAnswer) → horizon_refusal t q ≡ fine → a.refusal ≡ fine → Verdict t q a → VerdictAnswers t q a
verdict_given t q a h e v = record { refusal = e ∙ sym h; says = λ p. v; silent = λ n. absurd (n (ap (λ (s : Refusal). s.number) h)) }

-- no refusal beside a verdict
pub no_refusal : (v : search.Verdict) → (verdict_answered (Ok v)).refusal ≡ fine
no_refusal Meets = refl
no_refusal (Short w d s) = refl

-- ---- the verdict's refusal

module _ (t : Table) (q : ℕ) where
  abbrev pub multiple : ℕ
  multiple = lcm_of (tasks_of t) q t.period

  -- a refusal of the queue stands
  pub horizon_stands : ¬ Passes (queue_refusal t q) → horizon_refusal t q ≡ queue_refusal t q
  unfolding horizon_refusal
  horizon_stands n = also_refused (queue_refusal t q) (ltb 1000000 multiple) 13 n

  pub horizon_asked : (e : Refused) → as_refusal e ≡ queue_refusal t q → as_refusal e ≡ horizon_refusal t q
  horizon_asked e is = is ∙ sym (horizon_stands (refuses e _ is))

  pub horizon_past : fine ≡ queue_refusal t q → 1000000 < multiple → refusal 13 0 ≡ horizon_refusal t q
  unfolding horizon_refusal
  horizon_past e l = ap (λ b. refuse_if b 13) (sym (lt-ltb 1000000 multiple l)) ∙ also_ok (queue_refusal t q) (ltb 1000000 multiple) 13 e

  pub horizon_within : fine ≡ queue_refusal t q → multiple ≤ 1000000 → fine ≡ horizon_refusal t q
  unfolding horizon_refusal
  horizon_within e l = ap (λ b. refuse_if b 13) (sym (le-ltb 1000000 multiple l)) ∙ also_ok (queue_refusal t q) (ltb 1000000 multiple) 13 e

-- ---- the wait's

inside_is : (c : ℕ) → 1 ≤ c → c ≤ 65535 → not (within 1 65535 c) ≡ false
inside_is c l m = ap not (is_true (within 1 65535 c) (and_both (leb 1 c) (leb c 65535) (le→leb 1 c l) (le→leb c 65535 m)))

outside_is : (c : ℕ) → (1 ≤ c → c ≤ 65535 → ⊥) → not (within 1 65535 c) ≡ true
outside_is c h = elim (either (within 1 65535 c)) [
  | inl y ↦ absurd (h (leb→le 1 c (and_left (leb 1 c) _ y)) (leb→le c 65535 (and_right (leb 1 c) _ y)))
  | inr n ↦ is_true (not (within 1 65535 c)) n
]

module _ (t : Table) (q c cycle : ℕ) where
  abbrev asked : Refusal
  asked = queue_refusal t q

  abbrev outside : Bool
  outside = not (within 1 65535 c)

  -- a refusal of the queue stands
  pub wait_stands : ¬ Passes asked → wait_refusal t q c cycle ≡ asked
  unfolding wait_refusal amount_refusal
  wait_stands n =
      let e = also_refused asked outside 11 n in
      also_refused (also asked outside 11) (eqb cycle 0) 12 (λ p. n (ap (λ (r : Refusal). r.number) (sym e) ∙ p)) ∙ e

  pub wait_asked : (e : Refused) → as_refusal e ≡ asked → as_refusal e ≡ wait_refusal t q c cycle
  wait_asked e is = is ∙ sym (wait_stands (refuses e asked is))

  -- then one of the amount
  pub wait_amount : fine ≡ asked → (1 ≤ c → c ≤ 65535 → ⊥) → refusal 11 0 ≡ wait_refusal t q c cycle
  unfolding wait_refusal amount_refusal
  wait_amount e h =
      also_err (also asked outside 11) (eqb cycle 0) 12 (record { reason = Amount; place = 0 })
      (ap (λ b. refuse_if b 11) (sym (outside_is c h)) ∙ also_ok asked outside 11 e)

  module _ (e : fine ≡ asked) (some : 1 ≤ c) (most : c ≤ 65535) where
    amount_passes : fine ≡ also asked outside 11
    amount_passes = ap (λ b. refuse_if b 11) (sym (inside_is c some most)) ∙ also_ok asked outside 11 e

    pub wait_never : cycle ≡ 0 → refusal 12 0 ≡ wait_refusal t q c cycle
    unfolding wait_refusal amount_refusal
    wait_never z = ap (λ b. refuse_if b 12) (sym (is_true (eqb cycle 0) (eqb_of cycle 0 z))) ∙ also_ok (also asked outside 11) (eqb cycle 0) 12 amount_passes

    pub wait_given : 1 ≤ cycle → fine ≡ wait_refusal t q c cycle
    unfolding wait_refusal amount_refusal
    wait_given l = ap (λ b. refuse_if b 12) (sym (is_false (eqb cycle 0) (neqb_of cycle 0 (omega arith)))) ∙ also_ok (also asked outside 11) (eqb cycle 0) 12 amount_passes
