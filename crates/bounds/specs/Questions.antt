-- The questions about a judged table: their refusals in order, and what an answer says.
use Rattle.std.specs.Prelude.{◌≡◌, Bool, true, false, not, List, ℕ, zero, suc, ◌*◌, ◌≤◌, ◌<◌, length, get_or, ltb}
use Rattle.theory.specs.Grants.{is}
use Rattle.theory.specs.Bounds.{Least, Most}
use Rattle.theory.specs.Tree.{grants, CycleLeast, CycleMost}
use Rattle.table.specs.declared.Table.{Table}
use Rattle.table.specs.declared.Refusal.{Refusal}
use Rattle.table.specs.Table.{tree_of}
use Rattle.table.specs.Rules.{within, refusal, fine, judged}
use Rattle.bounds.specs.declared.TicksAnswer.{TicksAnswer}
use Rattle.bounds.specs.declared.CycleAnswer.{CycleAnswer}

-- ---- refusals

abbrev pub refuse_if : Bool → ℕ → Refusal
refuse_if true n = refusal n 0
refuse_if false n = fine

-- The refusal that is there already, or else number n where the test holds.
abbrev pub also : Refusal → Bool → ℕ → Refusal
also r broken n = elim r.number [ suc m ↦ r | zero ↦ refuse_if broken n ]

-- The table's, then QUEUE: the queue asked is 0 or above queues.
unfoldable pub queue_refusal : Table → ℕ → Refusal
queue_refusal t q = also (judged t) (not (within 1 t.queues q)) 10

-- Then AMOUNT: a window above 2,000,000.
unfoldable pub window_refusal : Table → ℕ → ℕ → Refusal
window_refusal t q w = also (queue_refusal t q) (ltb 2000000 w) 11

-- Then ROOM: fewer than 2P entries.
unfoldable pub fill_refusal : Table → ℕ → ℕ → Refusal
fill_refusal t q room = also (queue_refusal t q) (ltb room (2 * t.period)) 16

-- ---- answers

-- Refused with r, or a number of ticks with the property; 0 beside a refusal.
pub record Answer (r : Refusal) (A : ℕ → Type 0) (a : TicksAnswer) : Type 0 where
  pub refusal : a.refusal ≡ r
  pub says : r.number ≡ 0 → A a.ticks
  pub silent : ¬ (r.number ≡ 0) → a.ticks ≡ 0

abbrev pub LeastAnswer : Table → ℕ → ℕ → TicksAnswer → Type 0
LeastAnswer t q w = Answer (window_refusal t q w) (Least (grants (tree_of t)) (is q) w)

abbrev pub MostAnswer : Table → ℕ → ℕ → TicksAnswer → Type 0
MostAnswer t q w = Answer (window_refusal t q w) (Most (grants (tree_of t)) (is q) w)

pub record CycleAnswers (t : Table) (q : ℕ) (a : CycleAnswer) : Type 0 where
  pub refusal : a.refusal ≡ queue_refusal t q
  pub least : (queue_refusal t q).number ≡ 0 → CycleLeast (tree_of t) (is q) a.least
  pub most : (queue_refusal t q).number ≡ 0 → CycleMost (tree_of t) (is q) a.most
  pub silent : ¬ ((queue_refusal t q).number ≡ 0) → (a.least ≡ 0) × (a.most ≡ 0)

-- The lent slice before and after: entries 0 to 2P - 1 receive the least, later entries stay; a refusal writes nothing.
pub record Fills (t : Table) (q : ℕ) (before after : List ℕ) (r : Refusal) : Type 0 where
  pub refusal : r ≡ fill_refusal t q (length before)
  pub long : length after ≡ length before
  pub least : r.number ≡ 0 → (w : ℕ) → w < 2 * t.period → Least (grants (tree_of t)) (is q) w (get_or after w 0)
  pub later : r.number ≡ 0 → (w : ℕ) → 2 * t.period ≤ w → get_or after w 0 ≡ get_or before w 0
  pub silent : ¬ (r.number ≡ 0) → after ≡ before
