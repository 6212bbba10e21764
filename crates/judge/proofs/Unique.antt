-- What `judge` answers is settled by its contract: two answers that it allows are the same. Assumes nothing.
use Rattle.std.proofs.Common.{◌≡◌, sym, ◌∙◌, ap, Ok, Err}
use Rattle.table.proofs.Reasons.{not_fine, as_refusal_same}
use Rattle.table.proofs.Known.{same_table}
use Rattle.judge.proofs.judge.Reads as reads

pub same : (κs : _) (a : _) (r r' : _) (x x' : _) → reads.Post κs a r x → reads.Post κs a r' x' → r ≡ r'
same κs a (Ok t) (Ok u) x x' p q = ap Ok (same_table t u (p.1 ∙ sym q.1))
same κs a (Ok t) (Err f) x x' p q = absurd (not_fine f (q.0 ∙ sym p.0))
same κs a (Err e) (Ok u) x x' p q = absurd (not_fine e (p.0 ∙ sym q.0))
same κs a (Err e) (Err f) x x' p q = ap Err (as_refusal_same e f (p.0 ∙ sym q.0))
