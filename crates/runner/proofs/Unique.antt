-- What `fresh` and `step` answer, and the state that a step leaves, is settled by their contracts: two outcomes that they allow are the same. Assumes nothing.
use Rattle.std.proofs.Common.{◌≡◌, refl, sym, ap, ◌∙◌, ℕ, Option, Some, None, Result, Ok, Err, is_some, unwrap_or}
use Rattle.table.specs.declared.refused.Refused.{Refused}
use Rattle.table.proofs.Reasons.{not_fine, as_refusal_same}
use Rattle.runner.specs.declared.State.{State}
use Rattle.runner.specs.declared.Granted.{Granted}
use Rattle.runner.specs.declared.FreshAnswer.{FreshAnswer}
use Rattle.runner.specs.declared.StepAnswer.{StepAnswer}
use Rattle.runner.specs.State.{fresh_answered}
use Rattle.runner.specs.Step.{step_answered}
use Rattle.runner.proofs.State.fresh.Reads as fresh
use Rattle.runner.proofs.State.step.Reads as step

fresh_tells : (r r' : Result State Refused) → fresh_answered r ≡ fresh_answered r' → r ≡ r'
fresh_tells (Ok s) (Ok s') e = ap Ok (ap (λ (a : FreshAnswer). a.state) e)
fresh_tells (Ok s) (Err d) e = absurd (not_fine d (sym (ap (λ (a : FreshAnswer). a.refusal) e)))
fresh_tells (Err d) (Ok s) e = absurd (not_fine d (ap (λ (a : FreshAnswer). a.refusal) e))
fresh_tells (Err d) (Err d') e = ap Err (as_refusal_same d d' (ap (λ (a : FreshAnswer). a.refusal) e))

option_tells : (o o' : Option ℕ) → is_some o ≡ is_some o' → unwrap_or o 0 ≡ unwrap_or o' 0 → o ≡ o'
option_tells None None e f = refl
option_tells None (Some x) e f = cc
option_tells (Some x) None e f = cc
option_tells (Some x) (Some y) e f = ap Some f

given_tells : (s s' : State) (g g' : Result Granted Refused) → step_answered s g ≡ step_answered s' g' → g ≡ g'
given_tells s s' (Ok g) (Ok g') e =
    let task = option_tells g.task g'.task (ap (λ (a : StepAnswer). a.served) e) (ap (λ (a : StepAnswer). a.task) e) in
    λ i. Ok (record { queue = (e i).queue; task = task i; late = (e i).late })
given_tells s s' (Ok g) (Err d) e = absurd (not_fine d (sym (ap (λ (a : StepAnswer). a.refusal) e)))
given_tells s s' (Err d) (Ok g) e = absurd (not_fine d (ap (λ (a : StepAnswer). a.refusal) e))
given_tells s s' (Err d) (Err d') e = ap Err (as_refusal_same d d' (ap (λ (a : StepAnswer). a.refusal) e))

state_is : (s : State) (g : Result Granted Refused) → (step_answered s g).state ≡ s
state_is s (Ok g) = refl
state_is s (Err d) = refl

pub fresh_same : (κs : _) (a : _) (r r' : _) (x x' : _) → fresh.Post κs a r x → fresh.Post κs a r' x' → r ≡ r'
fresh_same κs a r r' x x' p q = fresh_tells r r' (p ∙ sym q)

pub step_same : (κs : _) (a : _) (r r' : _) (x x' : _) → step.Post κs a r x → step.Post κs a r' x' → (r ≡ r') × (x.0.now ≡ x'.0.now)
step_same κs a r r' x x' p q =
    let e = p ∙ sym q in
    (given_tells _ _ r r' e, sym (state_is _ r) ∙ (ap (λ (a : StepAnswer). a.state) e ∙ state_is _ r'))
