use Rattle.std.proofs.Common.{◌≡◌, sym, ap, ◌∙◌, rules, arith}
use lib.Dec.{ltb}
use borrow.Author.Tests.{lt-ltb, le-ltb}
use Rattle.table.specs.Reasons.{as_refusal, outcome}
use Rattle.bounds.specs.Questions.{refuse_if, queue_refusal, window_refusal}
use Rattle.bounds.proofs.Refused.{also_err, also_ok}
use Rattle.bounds.proofs.refusals.of_window.Goals as goal

pub returns-in_err-accepted-clause-refusal : goal.returns-in_err-accepted-clause-refusal
unfolding window_refusal
returns-in_err-accepted-clause-refusal c =
    let given : outcome c.from_residual.result ≡ as_refusal c.in_err-accepted.field-0.0 = search rules in
    given ∙ also_err (queue_refusal c.args.table.now c.args.queue) (ltb 2000000 c.args.window) 11 c.in_err-accepted.field-0.0 c.in_err-accepted.ensures.refusal

pub returns-then-window-gt-WINDOW-clause-refusal : goal.returns-then-window-gt-WINDOW-clause-refusal
unfolding window_refusal
returns-then-window-gt-WINDOW-clause-refusal c =
    ap as_refusal c.whole.ensures
    ∙ (ap (λ b. refuse_if b 11) (sym (lt-ltb 2000000 c.args.window (omega arith)))
    ∙ also_ok (queue_refusal c.args.table.now c.args.queue) (ltb 2000000 c.args.window) 11 c.in_ok-accepted.ensures.refusal)

pub returns-clause-refusal : goal.returns-clause-refusal
unfolding window_refusal
returns-clause-refusal c =
    ap (λ b. refuse_if b 11) (sym (le-ltb 2000000 c.args.window (omega arith))) ∙ also_ok (queue_refusal c.args.table.now c.args.queue) (ltb 2000000 c.args.window) 11 c.in_ok-accepted.ensures.refusal
