-- The format: numbers of two bytes, the payload of each kind of field, and the record of a table.
use Rattle.std.specs.Prelude.{List, [], ◌∷◌, ◌++◌, ℕ, zero, suc, ◌+◌, ◌-◌, ◌*◌, ◌/◌, ◌%◌, get_or, drop, eqb, leb}
use Rattle.laws.specs.Test.{pick}
use Rattle.table.specs.declared.Location.{Location}
use Rattle.table.specs.declared.Task.{Task}
use Rattle.table.specs.declared.Table.{Table}
use Rattle.table.specs.Table.{location_at, task_at, empty_table}

-- ---- numbers of two bytes, the higher first

abbrev pub number16 : List ℕ → ℕ
number16 s = get_or s 0 0 * 256 + get_or s 1 0

abbrev pub high_byte : ℕ → ℕ
high_byte x = x / 256 % 256

abbrev pub low_byte : ℕ → ℕ
low_byte x = x % 256

-- ---- payloads, as bytes

abbrev pub header_bytes : Table → List ℕ
header_bytes t = t.version ∷ t.queues ∷ high_byte t.period ∷ low_byte t.period ∷ []

abbrev pub location_bytes : Location → List ℕ
location_bytes l =
    l.parent ∷ l.queue ∷ high_byte l.ticks ∷ low_byte l.ticks ∷ l.variable ∷ high_byte l.low ∷ low_byte l.low ∷ high_byte l.high ∷ low_byte l.high ∷ []

abbrev pub task_bytes : Task → List ℕ
task_bytes k = k.queue ∷ high_byte k.work ∷ low_byte k.work ∷ high_byte k.deadline ∷ low_byte k.deadline ∷ high_byte k.gap ∷ low_byte k.gap ∷ []

-- ---- payloads, as values; s begins at the payload

-- A table with the header's numbers and nothing else.
abbrev pub header_of : List ℕ → Table
header_of s = record {
  version = get_or s 0 0;
  queues = get_or s 1 0;
  period = number16 (drop 2 s);
  locations = 0;
  tasks = 0;
  location = empty_table.location;
  task = empty_table.task;
}

abbrev pub location_of : List ℕ → Location
location_of s = record {
  parent = get_or s 0 0;
  queue = get_or s 1 0;
  ticks = number16 (drop 2 s);
  variable = get_or s 4 0;
  low = number16 (drop 5 s);
  high = number16 (drop 7 s);
}

abbrev pub task_of : List ℕ → Task
task_of s = record { queue = get_or s 0 0; work = number16 (drop 1 s); deadline = number16 (drop 3 s); gap = number16 (drop 5 s) }

-- ---- fields: tag, length, payload

abbrev pub header_field : Table → List ℕ
header_field t = 1 ∷ 0 ∷ 4 ∷ header_bytes t

abbrev pub location_field : Location → List ℕ
location_field l = 2 ∷ 0 ∷ 9 ∷ location_bytes l

abbrev pub task_field : Task → List ℕ
task_field k = 3 ∷ 0 ∷ 7 ∷ task_bytes k

-- The fields of n locations, or of n tasks, from the first on.
unfoldable pub location_fields : Table → ℕ → List ℕ
location_fields t zero = []
location_fields t (suc n) = location_fields t n ++ location_field (location_at t n)

unfoldable pub task_fields : Table → ℕ → List ℕ
task_fields t zero = []
task_fields t (suc n) = task_fields t n ++ task_field (task_at t n)

-- One header, then all locations, then all tasks.
unfoldable pub record_of : Table → List ℕ
record_of t = header_field t ++ (location_fields t t.locations ++ task_fields t t.tasks)

-- Where location v's field begins, where task i's, and the record's length.
abbrev pub location_offset : ℕ → ℕ
location_offset v = 7 + 12 * v

abbrev pub task_offset : Table → ℕ → ℕ
task_offset t i = location_offset t.locations + 10 * i

abbrev pub record_length : Table → ℕ
record_length t = task_offset t t.tasks

-- ---- places

-- Where the payload of field k begins, and how long it is: header, locations, tasks.
abbrev pub payload_offset : Table → ℕ → ℕ
payload_offset t k = pick (eqb k 0) 3 (pick (leb k t.locations) (location_offset (k - 1) + 3) (task_offset t (k - (t.locations + 1)) + 3))

abbrev pub payload_length : Table → ℕ → ℕ
payload_length t k = pick (eqb k 0) 4 (pick (leb k t.locations) 9 7)

-- How many fields there are.
abbrev pub field_count : Table → ℕ
field_count t = 1 + t.locations + t.tasks
