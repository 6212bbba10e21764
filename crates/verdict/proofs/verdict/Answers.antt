-- `verdict::verdict` meets its contract: the refusals in order, and then the search over the filling. Assumes nothing.
use mathlib.Core.Path.{◌≡◌, refl, sym, ap, subst, subst₂, ◌∙◌}
use Prim.Native.Nat.{◌≤◌, ◌<◌}
use Rattle.std.proofs.Common.{rules, Ok, Err, None}
use Rattle.theory.specs.Search.{lcm_of}
use Rattle.table.specs.declared.Table.{Table}
use Rattle.table.specs.declared.well_formed.WellFormedTable.{WellFormedTable}
use Rattle.table.specs.Table.{tasks_of}
use Rattle.table.specs.Reasons.{as_refusal}
use Rattle.table.proofs.Reasons.{not_zero}
use Rattle.multiple.proofs.Multiples.{within_said, past_said}
use Rattle.bounds.proofs.Refused.{queue_known}
use Rattle.search.specs.Answers.{Verdict}
use Rattle.search.specs.Answered.{verdict_answered}
use Rattle.verdict.specs.Questions.{VerdictAnswers}
use Rattle.verdict.proofs.InOrder.{multiple, horizon_asked, horizon_past, horizon_within, verdict_refused, verdict_given, no_refusal}
use Rattle.verdict.proofs.verdict.Goals as goal

pub returns-in_err-accepted : goal.returns-in_err-accepted
returns-in_err-accepted c =
    let t = c.args.table in
    let q = c.args.queue in
    let e = c.in_err-accepted.field-0.0 in
    let given : c.from_residual.result ≡ Err e = search rules in
    subst (λ r. VerdictAnswers t q (verdict_answered r)) (sym given) (verdict_refused t q _ (as_refusal e) (sym (horizon_asked t q e c.in_err-accepted.ensures.refusal)) (not_zero e) refl)

pub returns-in_err-multiple : goal.returns-in_err-multiple
returns-in_err-multiple c =
    let t = c.args.table in
    let q = c.args.queue in
    let e = c.whole-past.result in
    let given : c.from_residual-in_err-multiple.result ≡ Err e = search rules in
    let none : c.of_queue-2.result ≡ None = search rules in
    let of_table = ap (λ (u : Table). lcm_of (tasks_of u) q u.period) c.in_ok-accepted.ensures.kept in
    let past : 1000000 < multiple t q = rw of_table at (past_said _ (sym none ∙ c.of_queue-2.ensures)) in
    subst (λ r. VerdictAnswers t q (verdict_answered r)) (sym given)
    (verdict_refused t q _ (as_refusal e) (sym (ap as_refusal c.whole-past.ensures ∙ horizon_past t q c.in_ok-accepted.ensures.refusal past)) (not_zero e) refl)

pub supply_of-supply-requires : goal.supply_of-supply-requires
supply_of-supply-requires c = (queue_known c.args.table c.args.queue c.in_ok-accepted.ensures.refusal).0

pub returns : goal.returns
returns c =
    let t = c.args.table in
    let q = c.args.queue in
    let v = c.decide.result in
    let s = c.supply_of-supply.ensures in
    let of_table = ap (λ (u : Table). lcm_of (tasks_of u) q u.period) c.in_ok-accepted.ensures.kept in
    let within : multiple t q ≤ 1000000 = rw of_table at (within_said _ _ (sym c.in_ok-multiple.ensures.ok_part ∙ c.of_queue-2.ensures)).1 in
    let says = subst₂ (λ u r. Verdict u r (verdict_answered (Ok v))) (ap (λ (u : WellFormedTable). u.table.now) s.table ∙ c.in_ok-accepted.ensures.kept) s.queue c.decide.ensures in
    verdict_given t q _ (sym (horizon_within t q c.in_ok-accepted.ensures.refusal within)) (no_refusal v) says
