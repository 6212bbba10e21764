-- What lent columns mean: a tree whose queues are flags, and what is summed and marked in it.
use Rattle.std.specs.Prelude.{◌≡◌, ◌&&◌, Bool, false, List, [], ℕ, ◌*◌, ◌≤◌, ◌<◌, get_or, ltb}
use Rattle.laws.specs.Test.{pick, bit}
use Rattle.theory.specs.Grants.{is}
use Rattle.theory.specs.Tree.{Tree, before, Formed}
use Rattle.theory.specs.Points.{opens, closes}
use Rattle.table.specs.Columns.{entry, zeros, tree_over}
use Rattle.slice.specs.Changes.{Entries}

-- The mark at v.
abbrev pub marked : List Bool → ℕ → Bool
marked marks v = get_or marks v false

-- The marks below n are f's.
abbrev pub Marks : ℕ → (ℕ → Bool) → List Bool → Type 0
Marks n f marks = (v : ℕ) → v < n → marked marks v ≡ f v

-- v's flag as a queue: 1 where it is set, 0 elsewhere.
abbrev pub flag : List Bool → ℕ → ℕ
flag flags v = bit (marked flags v)

-- n locations with these parents, ticks and flags. A location passes where its flag is the one asked for.
abbrev pub lent_tree : List ℕ → List ℕ → List Bool → ℕ → ℕ → Tree
lent_tree parents ticks flags n period = record {
  size = n;
  period = period;
  parent = entry parents;
  queue = flag flags;
  ticks = entry ticks;
  variable = zeros;
  low = zeros;
  high = zeros;
}

pub record Lent (parents ticks : List ℕ) (flags : List Bool) (n period : ℕ) : Type 0 where
  pub few : n ≤ 128
  pub short : period ≤ 1024
  pub formed : Formed (lent_tree parents ticks flags n period)

-- Of v's own ticks, those that pass.
abbrev pub own_over : List ℕ → List Bool → ℕ → ℕ → ℕ
own_over ticks flags pass v = pick (is pass (flag flags v)) (entry ticks v) 0

-- The sum of a column over v's path without v.
abbrev pub before_over : List ℕ → List ℕ → ℕ → ℕ
before_over parents column v = before (tree_over 0 (entry parents) zeros zeros zeros) (entry column) v

-- The sums of the locations below n, none of them too large for its number.
pub record Kept (parents column sums : List ℕ) (n : ℕ) : Type 0 where
  pub each : Entries n (before_over parents column) sums
  pub small : (v : ℕ) → v < n → before_over parents column v ≤ 65535 * v

-- Marks at v: a corner starts here, a corner ends here before the cycle's end.
abbrev pub opens_over : List ℕ → List Bool → ℕ → ℕ → Bool
opens_over parents flags pass v = opens (lent_tree parents [] flags 0 0) (is pass) v

abbrev pub closes_over : List ℕ → List Bool → List ℕ → ℕ → ℕ → ℕ → ℕ → Bool
closes_over parents flags ends pass n period v = closes (lent_tree parents [] flags n 0) (is pass) v && ltb (entry ends v) period

-- No entry below n is above the limit.
abbrev pub Below : ℕ → ℕ → List ℕ → Type 0
Below n limit xs = (v : ℕ) → v < n → entry xs v ≤ limit
