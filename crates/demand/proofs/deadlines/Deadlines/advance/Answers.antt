use mathlib.Core.Path.{◌≡◌}
use Prim.Native.Nat.{◌+◌, ◌≤◌}
use native.Mathlib.Omega.{arith}
use lib.ListN.{length-set}
use Rattle.std.proofs.Common.{rules, Some}
use Rattle.demand.specs.Ahead.{far, ahead, entered}
use Rattle.demand.proofs.Blocks.{soonest, advancing_small, advancing_more}
use Rattle.demand.proofs.deadlines.Deadlines.advance.Goals as goal

pub enter-requires-clause-fits : goal.enter-requires-clause-fits
enter-requires-clause-fits c = λ w m.
    let now = c.loop-i in
    let a = c.args in
    let fits : entered a.block.now a.start w + ahead a.self.now.series now.self.count w ≤ far = rw now.invariant.same_tasks (c.requires.fits w m) in
    advancing_small _ _ _ _ now.self.series now.block now.next now.i now.invariant.advancing (omega arith) w fits

pub loop-i-preserved : goal.loop-i-preserved
loop-i-preserved c =
    let now = c.loop-i in
    let later = c.enter.new.self in
    let next : Some c.map_or.result ≡ soonest now.next later.next = search rules in record {
      same_tasks = now.invariant.same_tasks;
      long = simp length-set now.invariant.long;
      advancing = advancing_more _ _ _ _ now.self.series now.block now.next now.i now.invariant.advancing (omega arith) _ later (omega arith) c.enter.ensures _ next;
    }
