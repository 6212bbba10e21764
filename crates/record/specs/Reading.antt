-- Reading: the fields from the front, what is met first is refused; then the judge.
use Rattle.std.specs.Prelude.{true, false, List, ℕ, zero, suc, ◌+◌, length, set, drop, ltb, Result, Ok, Err}
use Rattle.table.specs.declared.Location.{Location}
use Rattle.table.specs.declared.Task.{Task}
use Rattle.table.specs.declared.Table.{Table}
use Rattle.table.specs.declared.Refusal.{Refusal}
use Rattle.table.specs.declared.refused.Reason.{Reason}
use Rattle.table.specs.declared.refused.Refused.{Refused}
use Rattle.table.specs.Table.{empty_table}
use Rattle.table.specs.Reasons.{as_refusal}
use Rattle.table.specs.Rules.{refusal, fine, judged}
use Rattle.format.specs.Format.{header_of, location_of, task_of}
use Rattle.format.specs.Tests.{header_number, is_location, field_number}
use Rattle.record.specs.declared.ReadAnswer.{ReadAnswer}

-- ---- answers

-- Beside a refusal the table is all zeros.
abbrev pub refused : Refusal → ReadAnswer
refused r = record { refusal = r; table = empty_table }

abbrev pub accepted : Table → ReadAnswer
accepted t = record { refusal = fine; table = t }

-- A reason met at a place.
abbrev pub placed : {A : Type 0} → ℕ → Result A Reason → Result A Refused
placed at (Ok a) = Ok a
placed at (Err r) = Err (record { reason = r; place = at })

-- A result, as C is given it.
abbrev pub read_answered : Result Table Refused → ReadAnswer
read_answered (Ok t) = accepted t
read_answered (Err r) = refused (as_refusal r)

-- ---- all fields from the front

-- The table with one location, or one task, more.
abbrev pub with_location : Table → Location → Table
with_location t l = record {
  version = t.version;
  queues = t.queues;
  period = t.period;
  locations = t.locations + 1;
  tasks = t.tasks;
  location = set t.location t.locations l;
  task = t.task;
}

abbrev pub with_task : Table → Task → Table
with_task t k = record {
  version = t.version;
  queues = t.queues;
  period = t.period;
  locations = t.locations;
  tasks = t.tasks + 1;
  location = t.location;
  task = set t.task t.tasks k;
}

-- The fields from `at` on, after those that t holds; k bounds the calls. Where the bytes end before a location, it is cut.
unfoldable pub fields_from : ℕ → List ℕ → ℕ → Table → ReadAnswer
fields_from zero s at t = refused (refusal 2 at)
fields_from (suc k) s at t = elim (ltb at (length s)) [
  | true ↦ elim (field_number s at t.locations t.tasks) [
    | zero ↦ elim (is_location s at t.tasks) [
      | true ↦ fields_from k s (at + 12) (with_location t (location_of (drop (at + 3) s)))
      | false ↦ fields_from k s (at + 10) (with_task t (task_of (drop (at + 3) s)))
    ]
    | suc n ↦ refused (refusal (suc n) at)
  ]
  | false ↦ elim t.locations [ zero ↦ refused (refusal 1 at) | suc n ↦ accepted t ]
]

-- 128 locations, 32 tasks, and the look at what comes after them.
abbrev pub most_fields : ℕ
most_fields = 161

-- The refusals 1 to 3, by what is met first; else the table that the fields hold.
unfoldable pub fields_of : List ℕ → ReadAnswer
fields_of s = elim (header_number s) [ zero ↦ fields_from most_fields s 7 (header_of (drop 3 s)) | suc n ↦ refused (refusal (suc n) 0) ]

-- What the judge makes of it.
abbrev pub judged_reading : ReadAnswer → ReadAnswer
judged_reading a = elim a.refusal.number [
  | suc n ↦ a
  | zero ↦ elim (judged a.table).number [ zero ↦ a | suc n ↦ refused (judged a.table) ]
]

unfoldable pub read_of : List ℕ → ReadAnswer
read_of s = judged_reading (fields_of s)
