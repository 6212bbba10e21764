-- What `demand`, `verdict` and `wait` answer is settled by their contracts: two answers that a contract allows are the same. Assumes nothing.
use mathlib.Core.Path.{◌≡◌, refl, sym, ap, subst, ◌∙◌}
use mathlib.Core.Bool.{Bool, true, false}
use mathlib.Core.Logic.{◌⊎◌, inl, inr}
use Prim.Native.Nat.{ℕ}
use Rattle.std.proofs.Common.{Result}
use Rattle.theory.specs.Grants.{is}
use Rattle.theory.specs.Tree.{grants}
use Rattle.theory.specs.Verdict.{Wait}
use Rattle.theory.proofs.Verdict.{not_both, short_unique}
use Rattle.theory.proofs.Wait.{wait_unique}
use Rattle.theory.proofs.Period.{cycle_least_unique}
use Rattle.table.specs.declared.Table.{Table}
use Rattle.table.specs.declared.refused.Refused.{Refused}
use Rattle.table.specs.Table.{tree_of, tasks_of}
use Rattle.bounds.specs.Questions.{queue_refusal, Answer}
use Rattle.bounds.proofs.Refused.{passes_or}
use Rattle.bounds.specs.Answered.{ticks_answered}
use Rattle.bounds.proofs.Unique.{result_same}
use Rattle.search.specs.declared.VerdictAnswer.{VerdictAnswer}
use Rattle.search.specs.Answers.{Zeros, Verdict}
use Rattle.search.specs.Answered.{verdict_answered}
use Rattle.search.proofs.Answered.{verdict_tells}
use Rattle.verdict.specs.Questions.{horizon_refusal, wait_refusal, VerdictAnswers, WaitAnswer}
use Rattle.verdict.proofs.InOrder.{wait_stands}
use Rattle.verdict.proofs.demand.Reads as demand-reads
use Rattle.verdict.proofs.verdict.Reads as verdict-reads
use Rattle.verdict.proofs.wait.Reads as wait-reads

told : (b : Bool) → (b ≡ true) ⊎ (b ≡ false)
told true = inl refl
told false = inr refl

-- ---- ticks

pub demand_same : (κs : _) (a : _) (r r' : _) (x x' : _) → demand-reads.Post κs a r x → demand-reads.Post κs a r' x' → r ≡ r'
demand_same κs a r r' x x' p q = result_same _ _ (λ m n e f. sym e ∙ f) r r' p q

-- ---- the verdict

module _ (t : Table) (q : ℕ) (a b : VerdictAnswer) where
  -- all four numbers are the same
  abbrev Agree : Type 0
  Agree = (a.meets ≡ b.meets) × (a.window ≡ b.window) × (a.demand ≡ b.demand) × (a.supply ≡ b.supply)

  zeros_agree : a.meets ≡ b.meets → Zeros a → Zeros b → Agree
  zeros_agree m x y = (m, x.0 ∙ sym y.0, x.1 ∙ sym y.1, x.2 ∙ sym y.2)

  decided : Verdict t q a → Verdict t q b → Agree
  decided x y = go (told a.meets) (told b.meets)
    where
      go : (a.meets ≡ true) ⊎ (a.meets ≡ false) → (b.meets ≡ true) ⊎ (b.meets ≡ false) → Agree
      go (inl m) (inl n) = zeros_agree (m ∙ sym n) (x.zeros m) (y.zeros n)
      go (inl m) (inr n) = absurd (not_both (grants (tree_of t)) (tasks_of t) q _ _ _ (x.meets m) (y.short n))
      go (inr m) (inl n) = absurd (not_both (grants (tree_of t)) (tasks_of t) q _ _ _ (y.meets n) (x.short m))
      go (inr m) (inr n) = let (w, d, s) = short_unique (grants (tree_of t)) (tasks_of t) q _ _ _ _ _ _ (x.short m) (y.short n) in (m ∙ sym n, w, d, s)

  verdict_agree : VerdictAnswers t q a → VerdictAnswers t q b → a ≡ b
  verdict_agree x y =
      let e : a.refusal ≡ b.refusal = x.refusal ∙ sym y.refusal in
      let f : Agree = passes_or (horizon_refusal t q) Agree (λ p. decided (x.says p) (y.says p)) (λ n. zeros_agree ((x.silent n).0 ∙ sym (y.silent n).0) (x.silent n).1 (y.silent n).1) in
      λ i. record { refusal = e i; meets = f.0 i; window = f.1 i; demand = f.2 i; supply = f.3 i }

pub verdict_same : (κs : _) (a : _) (r r' : _) (x x' : _) → verdict-reads.Post κs a r x → verdict-reads.Post κs a r' x' → r ≡ r'
verdict_same κs a r r' x x' p q = verdict_tells r r' (verdict_agree _ _ (verdict_answered r) (verdict_answered r') p q)

-- ---- the wait

module _ (t : Table) (q c : ℕ) (a b : Result ℕ Refused) where
  wait_agree : WaitAnswer t q c (ticks_answered a) → WaitAnswer t q c (ticks_answered b) → a ≡ b
  wait_agree x y =
      let e : wait_refusal t q c x.cycle ≡ wait_refusal t q c y.cycle =
      passes_or (queue_refusal t q) (wait_refusal t q c x.cycle ≡ wait_refusal t q c y.cycle)
      (λ p. ap (wait_refusal t q c) (cycle_least_unique (tree_of t) (is q) x.cycle y.cycle (x.cycle_least_law p) (y.cycle_least_law p)))
      (λ n. wait_stands t q c x.cycle n ∙ sym (wait_stands t q c y.cycle n)) in
      let waits = Wait (grants (tree_of t)) (is q) c in
      result_same _ waits (wait_unique (grants (tree_of t)) c) a b (subst (λ r. Answer r waits (ticks_answered a)) e x.answer) y.answer

pub wait_same : (κs : _) (a : _) (r r' : _) (x x' : _) → wait-reads.Post κs a r x → wait-reads.Post κs a r' x' → r ≡ r'
wait_same κs a r r' x x' p q = wait_agree _ _ _ r r' p q
