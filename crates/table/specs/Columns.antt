-- One list for each field that the judge reads along the tree, and what the rules say of such lists.
use Rattle.std.specs.Prelude.{Bool, not, ◌&&◌, List, map, ℕ, get_or, eqb}
use Rattle.theory.specs.Grants.{is}
use Rattle.theory.specs.Tree.{Tree, is_leaf, end}
use Rattle.table.specs.declared.Location.{Location}
use Rattle.table.specs.declared.Table.{Table}
use Rattle.table.specs.declared.Refusal.{Refusal}
use Rattle.table.specs.Rules.{breaks_shape, breaks_gap, breaks_overlap, breaks_period, refuse, lowest_location, location_place}

-- ---- a table's columns

abbrev pub parent_column : Table → List ℕ
parent_column t = map (λ (l : Location). l.parent) t.location

abbrev pub ticks_column : Table → List ℕ
ticks_column t = map (λ (l : Location). l.ticks) t.location

abbrev pub low_column : Table → List ℕ
low_column t = map (λ (l : Location). l.low) t.location

abbrev pub high_column : Table → List ℕ
high_column t = map (λ (l : Location). l.high) t.location

-- Which locations are queue q's.
abbrev pub flag_column : Table → ℕ → List Bool
flag_column t q = map (λ (l : Location). is q l.queue) t.location

-- ---- what columns say

-- The entry at v.
abbrev pub entry : List ℕ → ℕ → ℕ
entry xs v = get_or xs v 0

-- n locations with these parents, ticks, lows and highs.
abbrev pub tree_over : ℕ → (ℕ → ℕ) → (ℕ → ℕ) → (ℕ → ℕ) → (ℕ → ℕ) → Tree
tree_over n parent ticks low high = record {
  size = n;
  period = 0;
  parent = parent;
  queue = λ v. 0;
  ticks = ticks;
  variable = λ v. 0;
  low = low;
  high = high;
}

abbrev pub zeros : ℕ → ℕ
zeros v = 0

-- Location v is a leaf.
abbrev pub leaf_over : List ℕ → ℕ → ℕ → Bool
leaf_over parents n v = is_leaf (tree_over n (entry parents) zeros zeros zeros) v

-- The sum of the ticks on v's path.
abbrev pub end_over : List ℕ → List ℕ → ℕ → ℕ
end_over parents ticks v = end (tree_over 0 (entry parents) (entry ticks) zeros zeros) v

-- Location v is a leaf, and the ticks on its path do not sum to the period.
abbrev pub misses_period : List ℕ → List ℕ → ℕ → ℕ → ℕ → Bool
misses_period parents ticks n period v = leaf_over parents n v && not (eqb (end_over parents ticks v) period)

-- ---- the rules of the tree, one after the other

abbrev pub judged_tree : Table → Refusal → Refusal
judged_tree t next =
    refuse 5 location_place (lowest_location t breaks_shape)
    (refuse 6 location_place (lowest_location t breaks_gap)
    (refuse 7 location_place (lowest_location t breaks_overlap)
    (refuse 8 location_place (lowest_location t breaks_period)
    next)))
