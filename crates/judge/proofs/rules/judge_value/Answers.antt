use Rattle.std.proofs.Common.{◌≤◌, rules}
use Rattle.std.proofs.lemmas.Result.{IfOk-weaker}
use Rattle.table.specs.Ranged.{HighInWidth}
use Rattle.table.specs.Table.{location_at}
use Rattle.judge.proofs.rules.judge_value.Goals as goal

pub returns-clause-in_width : goal.returns-clause-in_width
returns-clause-in_width c =
    IfOk-weaker c.lowest.result _ (λ u. HighInWidth c.args.table.now)
    (λ u each v l.
    let told = each v l in
    let high : (location_at c.args.table.now v).high ≤ 65535 = search rules in
    high)
    c.lowest.ensures.unbroken
