use Rattle.std.proofs.Common.{refl, subst, length, arith}
use Rattle.std.proofs.Math.ListN.{get_or}
use Rattle.theory.specs.Grants.{is}
use Rattle.theory.specs.Bounds.{Least}
use Rattle.theory.specs.Tree.{grants}
use Rattle.table.specs.declared.Table.{Table}
use Rattle.table.specs.Table.{tree_of}
use Rattle.table.proofs.Known.{well_formed}
use Rattle.bounds.proofs.Refused.{room_known}
use Rattle.bounds.proofs.Answered.{least_says}
use Rattle.bounds.proofs.fill.Goals as goal

pub returns : goal.returns
returns c =
    let a = c.args in
    let e = c.in_ok-table.ensures.refusal in
    let kept = c.in_ok-table.ensures.kept in
    let accepted = c.in_ok-table.table in
    let w = well_formed accepted in
    let l = c.leasts.ensures in
    let k = room_known a.table a.queue (length a.out.now) e in
    record {
      refusal = e;
      long = l.long;
      least = λ z n h.
          let says = least_says (tree_of accepted.table.now) w.formed a.queue _ n (l.each n (omega (arith, rw (← kept) at h))) in
          subst (λ (u : Table). Least (grants (tree_of u)) (is a.queue) n (get_or c.leasts.new.out n 0)) kept says;
      later = λ z n h. l.later n (omega (arith, rw (← kept) at h, w.period.0));
      silent = λ z. absurd (z refl);
    }

pub invariant_of-own : goal.invariant_of-own
invariant_of-own c = record { some_queue = (room_known c.args.table c.args.queue (length c.args.out.now) c.in_ok-table.ensures.refusal).0 }

pub leasts-requires : goal.leasts-requires
leasts-requires c = rw c.in_ok-table.ensures.kept (room_known c.args.table c.args.queue (length c.args.out.now) c.in_ok-table.ensures.refusal).1
