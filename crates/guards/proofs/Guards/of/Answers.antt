use Rattle.guards.proofs.Made.{some_value}
use Rattle.guards.proofs.Guards.of.Goals as goal

pub invariant_of-result-clause-some_value : goal.invariant_of-result-clause-some_value
invariant_of-result-clause-some_value c =
    some_value c.args.table.now c.parents.result _ _ c.lows.ensures c.highs.ensures c.requires.in_width c.requires.some_value
