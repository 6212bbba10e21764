-- Writing: the judge, then room, then the record at the front of what was lent; its other bytes stay.
use Rattle.std.specs.Prelude.{true, false, List, ℕ, zero, suc, length, ltb, Result, Ok, Err}
use Rattle.std.proofs.lemmas.List.Edits.{sets}
use Rattle.table.specs.declared.Table.{Table}
use Rattle.table.specs.declared.Refusal.{Refusal}
use Rattle.table.specs.declared.refused.Refused.{Refused}
use Rattle.table.specs.Rules.{refusal, fine, judged}
use Rattle.table.specs.Reasons.{as_refusal}
use Rattle.format.specs.Format.{record_of, record_length}
use Rattle.writer.specs.declared.WriteAnswer.{WriteAnswer}

-- The refusal of writing t into so many bytes.
unfoldable pub write_refusal : Table → ℕ → Refusal
write_refusal t room = elim (judged t).number [
  | suc n ↦ judged t
  | zero ↦ elim (ltb room (record_length t)) [ true ↦ refusal 16 0 | false ↦ fine ]
]

-- The record's length, or 0 beside a refusal.
unfoldable pub write_of : Table → ℕ → WriteAnswer
write_of t room = elim (write_refusal t room).number [
  | zero ↦ record { refusal = fine; length = record_length t }
  | suc n ↦ record { refusal = write_refusal t room; length = 0 }
]

-- What the lent bytes are after it.
unfoldable pub written : Table → List ℕ → List ℕ
written t out = elim (write_refusal t (length out)).number [ zero ↦ sets out 0 (record_of t) | suc n ↦ out ]

-- A result, as C is given it.
abbrev pub write_answered : Result ℕ Refused → WriteAnswer
write_answered (Ok n) = record { refusal = fine; length = n }
write_answered (Err r) = record { refusal = as_refusal r; length = 0 }
