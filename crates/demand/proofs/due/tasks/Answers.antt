use native.Mathlib.Omega.{arith}
use Rattle.std.proofs.lemmas.List.{length-take, get_or-take}
use Rattle.table.proofs.Known.{well_formed}
use Rattle.demand.proofs.due.tasks.Goals as goal

pub shared_ref_as_front-result : goal.shared_ref_as_front-result
shared_ref_as_front-result c = omega (arith, (well_formed c.args.table.now).tasks)

pub returns : goal.returns
returns c =
    let t = c.args.table.now in
    let formed = well_formed t in record {
      number = omega (arith, length-take t.table.now.tasks t.table.now.task, formed.tasks);
      few = formed.tasks;
      each = λ i l. get_or-take t.table.now.tasks t.table.now.task i _ (omega (arith, length-take t.table.now.tasks t.table.now.task));
      lawful = λ i l. (formed.task i (omega (arith, length-take t.table.now.tasks t.table.now.task))).2;
    }
