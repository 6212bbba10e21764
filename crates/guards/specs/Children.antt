-- What the guards of a location's children hold, over lent columns.
use Rattle.std.specs.Prelude.{Bool, not, ◌&&◌, List, ℕ, suc}
use Rattle.laws.specs.Test.{none}
use Rattle.theory.specs.Tree.{Tree, is_child, is_leaf}
use Rattle.theory.specs.Guards.{top, holds}
use Rattle.theory.specs.Sweep.{widths}
use Rattle.table.specs.Columns.{entry, zeros, tree_over}

-- Value x is in the guard of v's child u.
abbrev pub leads_in : Tree → ℕ → ℕ → ℕ → Bool
leads_in t v x u = is_child t v u && holds t x u

-- Location v has children, and some value is in no child's guard.
abbrev pub gap_in : Tree → ℕ → Bool
gap_in t v = not (is_leaf t v) && not (none (λ x. none (leads_in t v x) t.size) (suc top))

-- Some value is in the guards of two children of v.
abbrev pub overlap_in : Tree → ℕ → Bool
overlap_in t v = not (none (λ x. not (none (λ u. leads_in t v x u && not (none (leads_in t v x) u)) t.size)) (suc top))

-- n locations with these parents, lows and highs.
abbrev pub guards_over : List ℕ → List ℕ → List ℕ → ℕ → Tree
guards_over parents lows highs n = tree_over n (entry parents) zeros (entry lows) (entry highs)

-- How many values the guards of v's children below m hold, each counted for every child that holds it.
abbrev pub widths_in : Tree → ℕ → ℕ → ℕ
widths_in t v m = widths (is_child t v) t.low t.high m
