-- What `least`, `most`, `cycle` and `fill` answer, and what `fill` leaves in the lent slice, is settled by their contracts: two outcomes that a
-- contract allows are the same. Assumes nothing.
use mathlib.Core.Path.{◌≡◌, sym, ap, subst, ◌∙◌}
use mathlib.Core.Logic.{inl, inr}
use mathlib.Core.List.{List}
use Prim.Native.Nat.{ℕ, ◌*◌}
use lib.ListN.{get_or}
use lib.Seq.{ext_get_or}
use Rattle.laws.proofs.Test.{le_or_lt}
use Rattle.theory.specs.Grants.{is}
use Rattle.theory.specs.Tree.{grants}
use Rattle.theory.proofs.Bounds.{least_unique, most_unique}
use Rattle.theory.proofs.Period.{cycle_least_unique, cycle_most_unique}
use Rattle.table.specs.declared.Table.{Table}
use Rattle.table.specs.declared.Refusal.{Refusal}
use Rattle.table.specs.Table.{tree_of}
use Rattle.bounds.specs.declared.TicksAnswer.{TicksAnswer}
use Rattle.bounds.specs.declared.CycleAnswer.{CycleAnswer}
use Rattle.bounds.specs.declared.CycleTicks.{CycleTicks}
use Rattle.bounds.specs.Answered.{ticks_answered, cycle_answered}
use Rattle.table.specs.declared.refused.Refused.{Refused}
use Rattle.table.specs.Reasons.{outcome}
use Rattle.table.proofs.Reasons.{not_fine, as_refusal_same, outcome_tells}
use Rattle.std.proofs.Common.{Result, Ok, Err}
use Rattle.bounds.specs.Questions.{queue_refusal, Answer, CycleAnswers, Fills}
use Rattle.bounds.proofs.Refused.{Passes, passes_or}
use Rattle.bounds.proofs.least.Reads as least-reads
use Rattle.bounds.proofs.most.Reads as most-reads
use Rattle.bounds.proofs.cycle.Reads as cycle-reads
use Rattle.bounds.proofs.fill.Reads as fill-reads

-- an answer in ticks, where at most one number has the property
pub answer_same : (r : Refusal) (A : ℕ → Type 0) → ((m n : ℕ) → A m → A n → m ≡ n) → (a b : TicksAnswer) → Answer r A a → Answer r A b → a ≡ b
answer_same r A unique a b x y =
    let e : a.refusal ≡ b.refusal = x.refusal ∙ sym y.refusal in
    let f : a.ticks ≡ b.ticks = passes_or r (a.ticks ≡ b.ticks) (λ p. unique a.ticks b.ticks (x.says p) (y.says p)) (λ n. x.silent n ∙ sym (y.silent n)) in
    λ i. record { refusal = e i; ticks = f i }

-- what C is given tells the answer
ticks_tell : (x y : Result ℕ Refused) → ticks_answered x ≡ ticks_answered y → x ≡ y
ticks_tell (Ok m) (Ok n) e = ap (λ (a : TicksAnswer). Ok a.ticks) e
ticks_tell (Ok m) (Err s) e = absurd (not_fine s (sym (ap (λ (a : TicksAnswer). a.refusal) e)))
ticks_tell (Err r) (Ok n) e = absurd (not_fine r (ap (λ (a : TicksAnswer). a.refusal) e))
ticks_tell (Err r) (Err s) e = ap Err (as_refusal_same r s (ap (λ (a : TicksAnswer). a.refusal) e))

pub result_same : (r : Refusal) (A : ℕ → Type 0) → ((m n : ℕ) → A m → A n → m ≡ n) → (x y : Result ℕ Refused) → Answer r A (ticks_answered x) → Answer r A (ticks_answered y) → x ≡ y
result_same r A unique x y a b = ticks_tell x y (answer_same r A unique (ticks_answered x) (ticks_answered y) a b)

pub least_same : (κs : _) (a : _) (r r' : _) (x x' : _) → least-reads.Post κs a r x → least-reads.Post κs a r' x' → r ≡ r'
least_same κs a r r' x x' p q = result_same _ _ (λ m n l k. least_unique _ l k) r r' p q

pub most_same : (κs : _) (a : _) (r r' : _) (x x' : _) → most-reads.Post κs a r x → most-reads.Post κs a r' x' → r ≡ r'
most_same κs a r r' x x' p q = result_same _ _ (λ m n l k. most_unique _ l k) r r' p q

-- ---- the cycle

module _ (t : Table) (q : ℕ) (a b : CycleAnswer) where
  cycle_agree : CycleAnswers t q a → CycleAnswers t q b → a ≡ b
  cycle_agree x y =
      let e : a.refusal ≡ b.refusal = x.refusal ∙ sym y.refusal in
      let (l, m) = passes_or (queue_refusal t q) ((a.least ≡ b.least) × (a.most ≡ b.most))
      (λ p. (cycle_least_unique (tree_of t) (is q) _ _ (x.least p) (y.least p), cycle_most_unique (tree_of t) (is q) _ _ (x.most p) (y.most p)))
      (λ n. ((x.silent n).0 ∙ sym (y.silent n).0, (x.silent n).1 ∙ sym (y.silent n).1)) in
      λ i. record { refusal = e i; least = l i; most = m i }

cycle_tell : (x y : Result CycleTicks Refused) → cycle_answered x ≡ cycle_answered y → x ≡ y
cycle_tell (Ok m) (Ok n) e = ap (λ (a : CycleAnswer). Ok (record { least = a.least; most = a.most })) e
cycle_tell (Ok m) (Err s) e = absurd (not_fine s (sym (ap (λ (a : CycleAnswer). a.refusal) e)))
cycle_tell (Err r) (Ok n) e = absurd (not_fine r (ap (λ (a : CycleAnswer). a.refusal) e))
cycle_tell (Err r) (Err s) e = ap Err (as_refusal_same r s (ap (λ (a : CycleAnswer). a.refusal) e))

pub cycle_same : (κs : _) (a : _) (r r' : _) (x x' : _) → cycle-reads.Post κs a r x → cycle-reads.Post κs a r' x' → r ≡ r'
cycle_same κs a r r' x x' p q = cycle_tell r r' (cycle_agree _ _ (cycle_answered r) (cycle_answered r') p q)

-- ---- the filling

module _ (t : Table) (q : ℕ) (before : List ℕ) (r : Refusal) (out out' : List ℕ) (x : Fills t q before out r) (y : Fills t q before out' r) where
  entry_same : Passes r → (w : ℕ) → get_or out w 0 ≡ get_or out' w 0
  entry_same p w = elim (le_or_lt (2 * t.period) w) [
    | inl h ↦ x.later p w h ∙ sym (y.later p w h)
    | inr h ↦ least_unique (grants (tree_of t)) (x.least p w h) (y.least p w h)
  ]

  slice_same : out ≡ out'
  slice_same = passes_or r (out ≡ out') (λ p. ext_get_or 0 out out' (x.long ∙ sym y.long) (λ w l. entry_same p w)) (λ n. x.silent n ∙ sym (y.silent n))

pub fill_same : (κs : _) (a : _) (r r' : _) (x x' : _) → fill-reads.Post κs a r x → fill-reads.Post κs a r' x' → (r ≡ r') × (x.1.1.0.now ≡ x'.1.1.0.now)
fill_same κs a r r' x x' p q =
    let e : outcome r ≡ outcome r' = p.refusal ∙ sym q.refusal in
    (outcome_tells r r' e, slice_same _ _ _ (outcome r') _ _ (subst (Fills _ _ _ _) e p) q)
