-- The field question: the payload of field k, as a part of the record.
use Rattle.std.specs.Prelude.{true, false, List, ℕ, zero, suc, take, drop, leb, Result, Ok, Err}
use Rattle.table.specs.declared.Refusal.{Refusal}
use Rattle.table.specs.declared.refused.Refused.{Refused}
use Rattle.table.specs.Rules.{refusal, fine}
use Rattle.table.specs.Reasons.{as_refusal}
use Rattle.format.specs.Format.{payload_offset, payload_length, field_count}
use Rattle.record.specs.declared.FieldAnswer.{FieldAnswer}
use Rattle.record.specs.declared.Part.{Part}
use Rattle.record.specs.Reading.{read_of}

-- All the reading rules first; then AMOUNT for k past the last field.
unfoldable pub field_refusal : List ℕ → ℕ → Refusal
field_refusal s k = elim (read_of s).refusal.number [
  | suc n ↦ (read_of s).refusal
  | zero ↦ elim (leb (field_count (read_of s).table) k) [ true ↦ refusal 11 0 | false ↦ fine ]
]

-- Where the part begins in the record, and how long it is; an empty part where the question is refused.
unfoldable pub part_offset : List ℕ → ℕ → ℕ
part_offset s k = elim (field_refusal s k).number [ zero ↦ payload_offset (read_of s).table k | suc n ↦ 0 ]

unfoldable pub part_length : List ℕ → ℕ → ℕ
part_length s k = elim (field_refusal s k).number [ zero ↦ payload_length (read_of s).table k | suc n ↦ 0 ]

abbrev pub part_of : List ℕ → ℕ → List ℕ
part_of s k = take (part_length s k) (drop (part_offset s k) s)

-- The question answered by numbers: the refusal, and where the part lies.
abbrev pub field_of : List ℕ → ℕ → FieldAnswer
field_of s k = record { refusal = field_refusal s k; offset = part_offset s k; length = part_length s k }

-- A result, as C is given it.
abbrev pub field_answered : Result Part Refused → FieldAnswer
field_answered (Ok p) = record { refusal = fine; offset = p.offset; length = p.length }
field_answered (Err r) = record { refusal = as_refusal r; offset = 0; length = 0 }
