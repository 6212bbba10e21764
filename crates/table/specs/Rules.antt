-- The rules that a table is judged by, each as its own sentence; the refusal; and what a well-formed table is.
use Rattle.std.specs.Prelude.{◌≡◌, Bool, true, false, not, ◌&&◌, ◌||◌, ℕ, zero, suc, ◌+◌, ◌≤◌, ◌<◌, T, eqb, leb, ltb}
use Rattle.laws.specs.Test.{none}
use Rattle.laws.specs.Found.{Found, nobody, at, first}
use Rattle.theory.specs.Tree.{is_child, is_leaf, end, Formed}
use Rattle.theory.specs.Guards.{top, holds, Guarded}
use Rattle.theory.specs.Task.{LawfulTask}
use Rattle.table.specs.declared.Location.{Location}
use Rattle.table.specs.declared.Table.{Table}
use Rattle.table.specs.declared.Refusal.{Refusal}
use Rattle.table.specs.Table.{location_at, task_at, tree_of, tasks_of}

-- ---- what breaks each rule

-- A number between two others, both included.
abbrev pub within : ℕ → ℕ → ℕ → Bool
within low high x = leb low x && leb x high

-- COUNT: a number of locations or tasks outside its limits.
abbrev pub breaks_count : Table → Bool
breaks_count t = not (within 1 128 t.locations && leb t.tasks 32)

-- VALUE, of the header: version not 1; queues or P outside 1..16, 1..1,024.
abbrev pub breaks_header : Table → Bool
breaks_header t = not (eqb t.version 1 && (within 1 16 t.queues && within 1 1024 t.period))

-- VALUE, of a location: ticks outside 1..1,024; queue above queues; variable above 7; guard low above high.
abbrev pub breaks_value : Table → ℕ → Bool
breaks_value t v =
    let l = location_at t v in
    not (within 1 1024 l.ticks && (leb l.queue t.queues && (leb l.variable 7 && leb l.low l.high)))

-- The root has parent 0 and guard 0..65,535; another location's parent is below its own number.
abbrev pub is_placed : Location → ℕ → Bool
is_placed l zero = eqb l.parent 0 && (eqb l.low 0 && eqb l.high top)
is_placed l (suc v) = ltb l.parent (suc v)

-- SHAPE: a location that is not placed so, or a leaf with variable not 0.
abbrev pub breaks_shape : Table → ℕ → Bool
breaks_shape t v = not (is_placed (location_at t v) v && (eqb (location_at t v).variable 0 || not (is_leaf (tree_of t) v)))

-- Value x is in the guard of v's child u.
abbrev pub leads : Table → ℕ → ℕ → ℕ → Bool
leads t v x u = is_child (tree_of t) v u && holds (tree_of t) x u

-- GAP: a location with children, and some value is in no child's guard.
abbrev pub breaks_gap : Table → ℕ → Bool
breaks_gap t v = not (is_leaf (tree_of t) v) && not (none (λ x. none (leads t v x) t.locations) (suc top))

-- OVERLAP: some value is in two: in u's guard and in that of a child below u.
abbrev pub breaks_overlap : Table → ℕ → Bool
breaks_overlap t v = not (none (λ x. not (none (λ u. leads t v x u && not (none (leads t v x) u)) t.locations)) (suc top))

-- PERIOD: the ticks on a leaf's path do not sum to P.
abbrev pub breaks_period : Table → ℕ → Bool
breaks_period t v = is_leaf (tree_of t) v && not (eqb (end (tree_of t) v) t.period)

-- TASK: queue 0 or above queues, or not 1 <= C <= D <= T.
abbrev pub breaks_task : Table → ℕ → Bool
breaks_task t i =
    let k = task_at t i in
    not (within 1 t.queues k.queue && (leb 1 k.work && (leb k.work k.deadline && leb k.deadline k.gap)))

-- ---- the refusal

abbrev pub refusal : ℕ → ℕ → Refusal
refusal n p = record { number = n; place = p }

abbrev pub fine : Refusal
fine = refusal 0 0

-- Where something was found, the refusal with that number at the place of it; else what comes next.
abbrev pub refuse : ℕ → (ℕ → ℕ) → Found → Refusal → Refusal
refuse n place nobody next = next
refuse n place (at v) next = refusal n (place v)

-- Nothing, or 0 where the test holds.
abbrev pub found_if : Bool → Found
found_if true = at 0
found_if false = nobody

-- The lowest location, or task, that breaks the rule.
abbrev pub lowest_location : Table → (Table → ℕ → Bool) → Found
lowest_location t breaks = first (breaks t) 0 t.locations

abbrev pub lowest_task : Table → (Table → ℕ → Bool) → Found
lowest_task t breaks = first (breaks t) 0 t.tasks

-- The place of location v is field v + 1; that of task i is field (locations) + 1 + i.
abbrev pub location_place : ℕ → ℕ
location_place v = v + 1

abbrev pub task_place : Table → ℕ → ℕ
task_place t i = t.locations + 1 + i

-- The lowest number that applies, and its lowest place.
unfoldable pub judged : Table → Refusal
judged t =
    refuse 3 (λ v. 0) (found_if (breaks_count t))
    (refuse 4 (λ v. 0) (found_if (breaks_header t))
    (refuse 4 location_place (lowest_location t breaks_value)
    (refuse 5 location_place (lowest_location t breaks_shape)
    (refuse 6 location_place (lowest_location t breaks_gap)
    (refuse 7 location_place (lowest_location t breaks_overlap)
    (refuse 8 location_place (lowest_location t breaks_period)
    (refuse 9 (task_place t) (lowest_task t breaks_task)
    fine)))))))

-- ---- well formed

-- The numbers of the header, of each location and of each task are in their limits; the tree is formed and guarded.
pub record WellFormed (t : Table) : Type 0 where
  pub version : t.version ≡ 1
  pub queues : (1 ≤ t.queues) × (t.queues ≤ 16)
  pub period : (1 ≤ t.period) × (t.period ≤ 1024)
  pub locations : (1 ≤ t.locations) × (t.locations ≤ 128)
  pub tasks : t.tasks ≤ 32
  pub ticks : (v : ℕ) → v < t.locations → (location_at t v).ticks ≤ 1024
  pub queue : (v : ℕ) → v < t.locations → (location_at t v).queue ≤ t.queues
  pub variable : (v : ℕ) → v < t.locations → (location_at t v).variable ≤ 7
  pub root : ((location_at t 0).parent ≡ 0) × ((location_at t 0).low ≡ 0) × ((location_at t 0).high ≡ top)
  pub leaf : (v : ℕ) → v < t.locations → T (is_leaf (tree_of t) v) → (location_at t v).variable ≡ 0
  pub formed : Formed (tree_of t)
  pub guarded : Guarded (tree_of t)
  pub task : (i : ℕ) → i < t.tasks → (1 ≤ (task_at t i).queue) × ((task_at t i).queue ≤ t.queues) × LawfulTask ((tasks_of t).task i)
