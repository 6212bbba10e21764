-- One task's job: what the step rules do to it.
use Rattle.std.specs.Prelude.{◌≡◌, Bool, ◌&&◌, ◌⊎◌, ℕ, ◌+◌, ◌-◌, ◌≤◌, min, eqb, ltb}
use Rattle.laws.specs.Test.{pick, bit}
use Rattle.theory.specs.Task.{Task}

-- Ticks since the release (stopping at the gap), work that remains, ticks left to the deadline.
pub record Job : Type 0 where
  pub since : ℕ
  pub remaining : ℕ
  pub left : ℕ

-- A task that may be released and has no work.
abbrev pub fresh : Task → Job
fresh k = record { since = k.gap; remaining = 0; left = 0 }

-- Unfinished: some of its work remains, and its deadline lies ahead.
pub record Open (k : Task) (j : Job) : Type 0 where
  pub some : 1 ≤ j.remaining
  pub fits : j.remaining ≤ k.work
  pub ahead : 1 ≤ j.left
  pub adds : j.since + j.left ≡ k.deadline

-- Lawful: since at most the gap, and either no work or unfinished.
abbrev pub LawfulJob : Task → Job → Type 0
LawfulJob k j = (j.since ≤ k.gap) × (((j.remaining ≡ 0) × (j.left ≡ 0)) ⊎ Open k j)

-- Rule 1: a release sets since to 0, remaining to the work and left to the deadline.
abbrev pub release : Task → Bool → Job → Job
release k b j = record { since = pick b 0 j.since; remaining = pick b k.work j.remaining; left = pick b k.deadline j.left }

-- Rule 2: a tick goes to the job that is served.
abbrev pub serve : Bool → Job → Job
serve b j = record { since = j.since; remaining = j.remaining - bit b; left = j.left }

-- Rule 3: since grows by one up to the gap; left falls by one for an unfinished job and is 0 for a finished one.
abbrev pub age : Task → Job → Job
age k j = record { since = min k.gap (j.since + 1); remaining = j.remaining; left = pick (eqb j.remaining 0) 0 (j.left - 1) }

-- A job with work and left 0 is late,
abbrev pub is_late : Job → Bool
is_late j = ltb 0 j.remaining && eqb j.left 0

-- and then dropped.
abbrev pub drop : Job → Job
drop j = record { since = j.since; remaining = pick (is_late j) 0 j.remaining; left = j.left }
