-- The contract of `write` settles what it answers and what it leaves in the lent bytes. Assumes nothing.
use Rattle.std.proofs.Common.{◌≡◌, sym, ap, ◌∙◌, ℕ, Result, Ok, Err}
use Rattle.table.specs.declared.refused.Refused.{Refused}
use Rattle.table.proofs.Reasons.{not_fine, as_refusal_same}
use Rattle.writer.specs.declared.WriteAnswer.{WriteAnswer}
use Rattle.writer.specs.Writing.{write_answered}
use Rattle.writer.proofs.write.Reads as reads

-- two results that stand for one answer are the same
answered_same : (r r' : Result ℕ Refused) → write_answered r ≡ write_answered r' → r ≡ r'
answered_same (Ok n) (Ok m) e = ap (λ (a : WriteAnswer). Ok a.length) e
answered_same (Ok n) (Err x) e = absurd (not_fine x (sym (ap (λ (a : WriteAnswer). a.refusal) e)))
answered_same (Err x) (Ok m) e = absurd (not_fine x (ap (λ (a : WriteAnswer). a.refusal) e))
answered_same (Err x) (Err y) e = ap Err (as_refusal_same x y (ap (λ (a : WriteAnswer). a.refusal) e))

pub same : (κs : _) (a : _) (r r' : _) (x x' : _) → reads.Post κs a r x → reads.Post κs a r' x' → (r ≡ r') × (x.1.0.now ≡ x'.1.0.now)
same κs a r r' x x' p q = (answered_same r r' (p.0 ∙ sym q.0), p.1 ∙ sym q.1)
