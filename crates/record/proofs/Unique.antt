-- The contract of each public function settles its answer: two answers that it allows to one question are the same, and of `field` also
-- where the part begins. Assumes nothing.
use mathlib.Core.Path.{◌≡◌, sym, ◌∙◌}
use Rattle.record.proofs.Answered.{read_answered_same, field_answered_same}
use Rattle.record.proofs.read.Reads as read
use Rattle.record.proofs.field.Reads as field
use Rattle.record.proofs.field_place.Reads as field-place
use Rattle.record.proofs.field_refusal.Reads as field-refusal

pub same_reading : (κs : _) (a : _) (r r' : _) (x x' : _) → read.Post κs a r x → read.Post κs a r' x' → r ≡ r'
same_reading κs a r r' x x' p q = read_answered_same r r' (p ∙ sym q)

pub same_part : (κs : _) (a : _) (r r' : _) (x x' : _) → field.Post κs a r x → field.Post κs a r' x' → (r.now ≡ r'.now) × (r.ref_ptr ≡ r'.ref_ptr)
same_part κs a r r' x x' p q = (p.0 ∙ sym q.0, p.1 ∙ sym q.1)

pub same_place : (κs : _) (a : _) (r r' : _) (x x' : _) → field-place.Post κs a r x → field-place.Post κs a r' x' → r ≡ r'
same_place κs a r r' x x' p q = field_answered_same r r' (p ∙ sym q)

pub same_refusal : (κs : _) (a : _) (r r' : _) (x x' : _) → field-refusal.Post κs a r x → field-refusal.Post κs a r' x' → r ≡ r'
same_refusal κs a r r' x x' p q = p ∙ sym q
