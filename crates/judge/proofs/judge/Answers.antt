-- A rule that is broken refuses, and one that is kept hands on to the next, with what the next requires.
use Rattle.std.proofs.Common.{◌≡◌, refl, sym, ap, ◌∙◌, false, rules, arith}
use Rattle.laws.specs.Found.{nobody}
use Rattle.laws.proofs.First.{first_nobody}
use Rattle.table.specs.declared.Refusal.{Refusal}
use Rattle.table.specs.declared.Table.{Table}
use Rattle.table.specs.Columns.{judged_tree}
use Rattle.table.specs.Reasons.{as_refusal, outcome}
use Rattle.table.specs.Rules.{breaks_count, breaks_header, breaks_value, breaks_task, refuse, fine, found_if, lowest_location, lowest_task, location_place, task_place, judged}
use Rattle.table.proofs.Unbroken.{refuse_nobody}
use Rattle.table.proofs.Reasons.{not_zero}
use Rattle.judge.proofs.Lowest.{refused, passed, if_refused, if_kept, tree_refused, tree_kept}
use Rattle.judge.proofs.judge.Goals as goal

-- ---- what each rule hands on to

abbrev from_task : Table → Refusal
from_task t = refuse 9 (task_place t) (lowest_task t breaks_task) fine

abbrev from_value : Table → Refusal
from_value t = refuse 4 location_place (lowest_location t breaks_value) (judged_tree t (from_task t))

abbrev from_header : Table → Refusal
from_header t = refuse 4 (λ v. 0) (found_if (breaks_header t)) (from_value t)

-- ---- rules that are kept

module _ (t : Table) (counted : breaks_count t ≡ false) where
  after_count : from_header t ≡ judged t
  unfolding judged
  after_count = if_kept 3 (breaks_count t) (from_header t) counted

  module _ (headed : breaks_header t ≡ false) where
    after_header : from_value t ≡ judged t
    after_header = if_kept 4 (breaks_header t) (from_value t) headed ∙ after_count

    module _ (e : fine ≡ refuse 4 location_place (lowest_location t breaks_value) fine) where
      value_kept : lowest_location t breaks_value ≡ nobody
      value_kept = passed 4 location_place fine (lowest_location t breaks_value) (omega arith) e refl

      after_value : judged_tree t (from_task t) ≡ judged t
      after_value = sym (refuse_nobody 4 location_place (lowest_location t breaks_value) (judged_tree t (from_task t)) value_kept) ∙ after_header

      after_tree : fine ≡ judged_tree t fine → from_task t ≡ judged t
      after_tree f = tree_kept t fine (from_task t) f refl ∙ after_value

-- ---- the goals

pub returns-then-breaks_count-clause-refusal : goal.returns-then-breaks_count-clause-refusal
unfolding judged
returns-then-breaks_count-clause-refusal c =
    let t = c.args.table.now in
    ap as_refusal c.whole.ensures ∙ if_refused 3 (breaks_count t) (from_header t) (sym c.breaks_count.ensures ∙ c.if-breaks_count.true)

pub returns-then-breaks_header-clause-refusal : goal.returns-then-breaks_header-clause-refusal
returns-then-breaks_header-clause-refusal c =
    let t = c.args.table.now in
    ap as_refusal c.whole-then-breaks_header.ensures
    ∙ (if_refused 4 (breaks_header t) (from_value t) (sym c.breaks_header.ensures ∙ c.if-breaks_header.true)
    ∙ after_count t (sym c.breaks_count.ensures ∙ c.if-breaks_count.false))

pub returns-in_err-judge_value-clause-refusal : goal.returns-in_err-judge_value-clause-refusal
returns-in_err-judge_value-clause-refusal c =
    let t = c.args.table.now in
    let e = c.in_err-judge_value.field-0.0 in
    let given : outcome c.from_residual.result ≡ as_refusal e = search rules in
    given
    ∙ (refused 4 location_place (as_refusal e) (lowest_location t breaks_value) (judged_tree t (from_task t)) c.in_err-judge_value.ensures.refusal (not_zero e)
    ∙ after_header t (sym c.breaks_count.ensures ∙ c.if-breaks_count.false) (sym c.breaks_header.ensures ∙ c.if-breaks_header.false))

pub judge_tree-requires-clause-values : goal.judge_tree-requires-clause-values
judge_tree-requires-clause-values c =
    let t = c.args.table.now in
    let counted = sym c.breaks_count.ensures ∙ c.if-breaks_count.false in
    let headed = sym c.breaks_header.ensures ∙ c.if-breaks_header.false in
    λ v m. first_nobody (breaks_value t) t.locations v (value_kept t counted headed c.in_ok-judge_value.ensures.refusal) m

pub returns-in_err-judge_tree-clause-refusal : goal.returns-in_err-judge_tree-clause-refusal
returns-in_err-judge_tree-clause-refusal c =
    let t = c.args.table.now in
    let counted = sym c.breaks_count.ensures ∙ c.if-breaks_count.false in
    let headed = sym c.breaks_header.ensures ∙ c.if-breaks_header.false in
    let e = c.in_err-judge_tree.field-0.0 in
    let given : outcome c.from_residual-in_err-judge_tree.result ≡ as_refusal e = search rules in
    given ∙ (tree_refused t (as_refusal e) (from_task t) c.in_err-judge_tree.ensures (not_zero e) ∙ after_value t counted headed c.in_ok-judge_value.ensures.refusal)

pub returns-in_err-judge_task-clause-refusal : goal.returns-in_err-judge_task-clause-refusal
returns-in_err-judge_task-clause-refusal c =
    let t = c.args.table.now in
    let counted = sym c.breaks_count.ensures ∙ c.if-breaks_count.false in
    let headed = sym c.breaks_header.ensures ∙ c.if-breaks_header.false in
    let e = c.in_err-judge_task.field-0.0 in
    let given : outcome c.from_residual-in_err-judge_task.result ≡ as_refusal e = search rules in
    given ∙ (c.in_err-judge_task.ensures ∙ after_tree t counted headed c.in_ok-judge_value.ensures.refusal c.in_ok-judge_tree.ensures)

pub invariant_of-result : goal.invariant_of-result
invariant_of-result c =
    let t = c.args.table.now in
    let counted = sym c.breaks_count.ensures ∙ c.if-breaks_count.false in
    let headed = sym c.breaks_header.ensures ∙ c.if-breaks_header.false in
    record {
      judged = sym (c.in_ok-judge_task.ensures ∙ after_tree t counted headed c.in_ok-judge_value.ensures.refusal c.in_ok-judge_tree.ensures);
      in_width = c.in_ok-judge_value.ensures.in_width;
    }
