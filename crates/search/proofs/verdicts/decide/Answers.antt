use mathlib.Core.Path.{◌≡◌, refl}
use Prim.Native.Nat.{ℕ, ◌+◌, ◌≤◌, ◌<◌}
use native.Mathlib.Omega.{arith}
use Rattle.std.proofs.Common.{rules, Some}
use Rattle.table.specs.Columns.{entry}
use Rattle.table.proofs.Known.{well_formed}
use Rattle.supply.proofs.Supply.{least}
use Rattle.search.specs.Answers.{meets_answer}
use Rattle.search.proofs.Answers.{verdict_meets, verdict_short}
use Rattle.search.proofs.Swept.{swept_at, demand_few, swept_first, meets_all, passed, block_small, scan_first, demand_here, demand_stays, short_here, scan_more, swept_more}
use Rattle.search.proofs.verdicts.decide.Goals as goal
use Rattle.search.proofs.verdicts.decide.Goals.{then-work-ne0+else-least-demand, else-work-ne0}

pub loop-start-init : goal.loop-start-init
loop-start-init c =
    let s = c.args.supply.now in
    swept_first s.table.now.table.now (well_formed s.table.now) s.queue _ _ c.of-deadlines.ensures

-- before a block
pub advance-next-requires-clause-fits : goal.advance-next-requires-clause-fits
advance-next-requires-clause-fits c =
    let s = c.args.supply.now in
    let next : c.loop-start.next ≡ Some c.in-Some.start = search rules in
    let within : c.in-Some.start ≤ c.args.multiple = search rules in
    let t = s.table.now.table.now in
    let formed = well_formed s.table.now in
    block_small t formed s.queue _ _ _ _ (swept_at t formed s.queue _ _ _ _ _ _ next refl c.loop-start.invariant) (omega arith)

pub loop-i-init : goal.loop-i-init
loop-i-init c =
    let s = c.args.supply.now in
    let t = s.table.now.table.now in
    let formed = well_formed s.table.now in
    let next : c.loop-start.next ≡ Some c.in-Some.start = search rules in
    let moves = c.advance-next.ensures in
    scan_first t formed s.queue _ _ _ _ _ _ moves.advances _ (swept_at t formed s.queue _ _ _ _ _ _ next moves.same_tasks c.loop-start.invariant)

pub loop-start-preserved : goal.loop-start-preserved
loop-start-preserved c =
    let s = c.args.supply.now in
    let t = s.table.now.table.now in
    let formed = well_formed s.table.now in
    let next : c.loop-start.next ≡ Some c.in-Some.start = search rules in
    let moves = c.advance-next.ensures in
    let swept = swept_at t formed s.queue _ _ _ _ _ _ next moves.same_tasks c.loop-start.invariant in
    swept_more t formed s.queue _ _ _ _ _ _ moves.advances _ _ c.loop-i.invariant swept.some c.advance-next.array_long (omega arith)

-- a window of the block
pub overflow_add-demand : goal.overflow_add-demand
overflow_add-demand c =
    let s = c.args.supply.now in
    let t = s.table.now.table.now in
    let within : c.in-Some.start ≤ c.args.multiple = search rules in
    let formed = well_formed s.table.now in
    let here = demand_here t formed s.queue _ _ _ _ _ _ c.advance-next.ensures.advances _ _ c.loop-i.invariant c.loop-i-test.true in
    omega (arith, here, demand_few t formed s.queue (c.in-Some.start + c.loop-i.i))

pub returns-then-least-demand : goal.returns-then-least-demand
returns-then-least-demand c =
    let s = c.args.supply.now in
    let t = s.table.now.table.now in
    let formed = well_formed s.table.now in
    let next : c.loop-start.next ≡ Some c.in-Some.start = search rules in
    let swept = swept_at t formed s.queue _ _ _ _ _ _ next c.advance-next.ensures.same_tasks c.loop-start.invariant in
    (verdict_short t s.queue _ _ _ _ refl
    (short_here t formed s.queue _ _ _ _ _ _ c.advance-next.ensures.advances _ _ c.loop-i.invariant c.loop-i-test.true _ swept.some c.at-least.ensures c.if-least-demand.true)).1

pub loop-i-preserved : goal.loop-i-preserved
loop-i-preserved c =
    let s = c.args.supply.now in
    let t = s.table.now.table.now in
    let formed = well_formed s.table.now in
    let next : c.loop-start.next ≡ Some c.in-Some.start = search rules in
    let swept = swept_at t formed s.queue _ _ _ _ _ _ next c.advance-next.ensures.same_tasks c.loop-start.invariant in
    let window = c.in-Some.start + c.loop-i.i in
    let fits : c.loop-i.demand + entry c.advance-next.new.block c.loop-i.i ≤ least t s.queue window =
    elim c.if-work-ne0.branch [
      | then-work-ne0+else-least-demand w ↦ omega (arith, w.at-least.ensures, w.if-least-demand.false)
      | else-work-ne0 w ↦ demand_stays t formed s.queue _ _ _ _ _ _ c.advance-next.ensures.advances _ _ c.loop-i.invariant c.loop-i-test.true swept.some w.if-work-ne0.false
    ] in
    scan_more t formed s.queue _ _ _ _ _ _ c.advance-next.ensures.advances _ _ c.loop-i.invariant c.loop-i-test.true fits

pub returns : goal.returns
returns c =
    let s = c.args.supply.now in
    let t = s.table.now.table.now in
    let formed = well_formed s.table.now in
    let past : (d : ℕ) → c.loop-start.next ≡ Some d → c.args.multiple < d = search rules in
    (verdict_meets t s.queue meets_answer refl
    (meets_all t formed s.queue c.args.multiple c.requires.common_multiple.0 (passed t formed s.queue _ _ _ _ _ c.loop-start.invariant past))).1
