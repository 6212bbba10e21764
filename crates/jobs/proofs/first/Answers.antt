use Rattle.std.proofs.Common.{sym, ap, ◌∙◌, slice_set, arith}
use Rattle.jobs.proofs.Rows.{row_none, row_next}
use Rattle.jobs.proofs.first.Goals as goal

pub loop-i-init : goal.loop-i-init
loop-i-init g c = λ js makes. sym (row_none js)

pub loop-i-preserved : goal.loop-i-preserved
loop-i-preserved g c = λ js makes.
    let l = c.loop-i in
    ap (λ entry. slice_set l.jobs l.i entry) (makes l.i c.of.result (omega arith) c.of.ensures)
    ∙ row_next js l.i l.jobs (l.invariant js (λ i entry below gives. makes i entry (omega arith) gives))
