-- `verdict::demand` meets its contract: the refusals in order, and then the sum over the queue's tasks. Assumes nothing.
use Rattle.bounds.proofs.Refused.{window_known}
use Rattle.verdict.proofs.demand.Goals as goal

pub of_queue-requires : goal.of_queue-requires
of_queue-requires c = (window_known c.args.table c.args.queue c.args.window c.in_ok-accepted.ensures.refusal).1
