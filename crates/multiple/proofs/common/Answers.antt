use mathlib.Core.Path.{ap, ◌∙◌}
use native.Mathlib.Omega.{arith}
use Rattle.std.proofs.Common.{Some}
use Rattle.multiple.proofs.Multiples.{stepped_more, stepped_below, stepped_found, within_is, past_is}
use Rattle.multiple.proofs.common.Goals as goal

pub returns-then-multiple-gap-eq0 : goal.returns-then-multiple-gap-eq0
returns-then-multiple-gap-eq0 c =
    let a = c.args in
    let e = stepped_found a.base a.gap c.loop-multiple.multiple c.loop-multiple.invariant (omega arith) c.if-multiple-gap-eq0.true in
    ap Some e ∙ within_is _ (omega (arith, e))

pub loop-multiple-preserved : goal.loop-multiple-preserved
loop-multiple-preserved c = stepped_more _ _ _ c.loop-multiple.invariant c.if-multiple-gap-eq0.false

pub returns : goal.returns
returns c =
    let a = c.args in
    past_is _ (omega (arith, stepped_below a.base a.gap c.loop-multiple.multiple c.loop-multiple.invariant (omega arith)))
