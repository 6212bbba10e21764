-- The worked steps of docs/RULES.md, Table A: from the fresh state, all with variable 0 at 100.
use Rattle.std.specs.Prelude.{◌≡◌, Bool, true, false, List, [], ◌∷◌, ℕ, replicate}
use Rattle.table.specs.declared.Table.{Table}
use Rattle.table.specs.Table.{no_location, no_task}
use Rattle.runner.specs.declared.State.{State}
use Rattle.runner.specs.State.{fresh_state}
use Rattle.runner.specs.Step.{stepped}

-- Table A, with deadline D.
abbrev pub table_a : ℕ → Table
table_a D = record {
  version = 1;
  queues = 2;
  period = 4;
  locations = 3;
  tasks = 1;
  location =
      record { parent = 0; queue = 1; ticks = 1; variable = 0; low = 0; high = 65535 }
      ∷ record { parent = 0; queue = 1; ticks = 3; variable = 0; low = 0; high = 99 }
      ∷ record { parent = 0; queue = 2; ticks = 3; variable = 0; low = 100; high = 65535 }
      ∷ replicate 125 no_location;
  task = record { queue = 1; work = 1; deadline = D; gap = 4 } ∷ replicate 31 no_task;
}

-- What a step shows: the queue granted, whether a task is served and which one, the late set.
pub record Shown : Type 0 where
  pub queue : ℕ
  pub served : Bool
  pub task : ℕ
  pub late : ℕ

abbrev pub shown : ℕ → Bool → ℕ → ℕ → Shown
shown q b i l = record { queue = q; served = b; task = i; late = l }

-- What the steps from a state show, one for each set of released tasks.
unfoldable pub steps : Table → State → List ℕ → List Shown
steps t s [] = []
steps t s (set ∷ sets) =
    let a = stepped t s (replicate 8 100) set in
    shown a.queue a.served a.task a.late ∷ steps t a.state sets

pub record WorkedSteps : Type 0 where
  -- steps 1 to 5, with task 0 released in steps 1 and 5
  pub in_time : steps (table_a 4) (fresh_state (table_a 4)) (1 ∷ 0 ∷ 0 ∷ 0 ∷ 1 ∷ [])
      ≡ (shown 1 true 0 0 ∷ shown 2 false 0 0 ∷ shown 2 false 0 0 ∷ shown 2 false 0 0 ∷ shown 1 true 0 0 ∷ [])
  -- with D 3 a release in step 2 is late in step 4
  pub late : steps (table_a 3) (fresh_state (table_a 3)) (0 ∷ 1 ∷ 0 ∷ 0 ∷ [])
      ≡ (shown 1 false 0 0 ∷ shown 2 false 0 0 ∷ shown 2 false 0 0 ∷ shown 2 false 0 1 ∷ [])
