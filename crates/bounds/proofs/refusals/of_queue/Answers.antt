use Rattle.std.proofs.Common.{◌≡◌, sym, ap, ◌∙◌, not, rules}
use Rattle.table.specs.Reasons.{as_refusal, outcome}
use Rattle.table.specs.Rules.{within, judged}
use Rattle.bounds.specs.Questions.{refuse_if, queue_refusal, queue_refusal}
use Rattle.bounds.proofs.Refused.{also_err, also_ok}
use Rattle.bounds.proofs.refusals.of_queue.Goals as goal

pub returns-in_err-accepted-clause-refusal : goal.returns-in_err-accepted-clause-refusal
unfolding queue_refusal
returns-in_err-accepted-clause-refusal c =
    let given : outcome c.from_residual.result ≡ as_refusal c.in_err-accepted.field-0.0 = search rules in
    given ∙ also_err (judged c.args.table.now) (not (within 1 c.args.table.now.queues c.args.queue)) 10 c.in_err-accepted.field-0.0 c.in_err-accepted.ensures.refusal

pub returns-then-is_outside-clause-refusal : goal.returns-then-is_outside-clause-refusal
unfolding queue_refusal
returns-then-is_outside-clause-refusal c =
    ap as_refusal c.whole.ensures
    ∙ (ap (λ b. refuse_if b 10) (sym (sym c.is_outside.ensures ∙ c.if-is_outside.true))
    ∙ also_ok (judged c.args.table.now) (not (within 1 c.args.table.now.queues c.args.queue)) 10 c.in_ok-accepted.ensures.refusal)

pub returns-clause-refusal : goal.returns-clause-refusal
unfolding queue_refusal
returns-clause-refusal c =
    ap (λ b. refuse_if b 10) (sym (sym c.is_outside.ensures ∙ c.if-is_outside.false)) ∙ also_ok (judged c.args.table.now) (not (within 1 c.args.table.now.queues c.args.queue)) 10 c.in_ok-accepted.ensures.refusal
