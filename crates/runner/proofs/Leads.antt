-- The guards that are read from a table lead where its tree leads, and that is always a location of the table. Assumes nothing.
use mathlib.Core.Path.{◌≡◌, ◌∙◌}
use mathlib.Core.Bool.{Bool, ◌&&◌}
use Prim.Native.Nat.{ℕ, zero, suc, ◌≤◌, ◌<◌}
use native.Mathlib.Omega.{arith}
use Rattle.laws.specs.Found.{Found, nobody, at, first, IsFirst}
use Rattle.laws.proofs.First.{first_is}
use Rattle.theory.specs.Tree.{Tree, is_child}
use Rattle.theory.specs.Guards.{holds, or_root, onto}
use Rattle.table.specs.declared.Location.{Location}
use Rattle.table.specs.declared.Table.{Table}
use Rattle.table.specs.Table.{location_at, tree_of}
use Rattle.table.specs.Rules.{WellFormed}
use Rattle.table.specs.Columns.{parent_column, low_column, high_column, tree_over, zeros}
use Rattle.table.proofs.Copied.{column_entry}
use Rattle.guards.specs.declared.Guards.{Guards}
use Rattle.guards.specs.Children.{guards_over}
use Rattle.guards.specs.Lent.{guards_of, ReadFrom}

-- each guard holds some value: the root's holds all
pub some_guard : (t : Table) → WellFormed t → (v : ℕ) → v < t.locations → (location_at t v).low ≤ (location_at t v).high
some_guard t w zero l = omega (arith, w.root.1)
some_guard t w (suc v) l = (w.guarded.some_value (suc v) (omega arith) l).0

pub columns_lead : (t : Table) (v x : ℕ) → onto (guards_over (parent_column t) (low_column t) (high_column t) t.locations) v x ≡ onto (tree_of t) v x
columns_lead t v x = λ i.
    onto
    (tree_over t.locations
    (λ u. column_entry (λ (l : Location). l.parent) t.location u i)
    zeros
    (λ u. column_entry (λ (l : Location). l.low) t.location u i)
    (λ u. column_entry (λ (l : Location). l.high) t.location u i))
    v x

pub guards_lead : (t : Table) (g : Guards) → ReadFrom t g → (v x : ℕ) → onto (guards_of g) v x ≡ onto (tree_of t) v x
guards_lead t g r v x = (λ i. onto (guards_over (r.parents i) (r.lows i) (r.highs i) (r.n i)) v x) ∙ columns_lead t v x

pub onto_inside : (t : Tree) (v x : ℕ) → 0 < t.size → onto t v x < t.size
unfolding IsFirst
onto_inside t v x r = go (first leads 0 t.size) (first_is leads 0 t.size)
  where
    leads : ℕ → Bool
    leads u = is_child t v u && holds t x u

    go : (o : Found) → IsFirst leads 0 t.size o → or_root o < t.size
    go nobody h = r
    go (at u) h = omega (arith, h.1)
