-- A table's columns mean the table's tree, with flags for its queues: the bounds are the same. Assumes nothing.
use mathlib.Core.Path.{◌≡◌, refl, sym, ap, subst, ◌∙◌}
use mathlib.Core.Bool.{Bool, true, false, not}
use mathlib.Core.List.{List}
use Prim.Native.Nat.{ℕ, ◌-◌, ◌*◌, ◌≤◌}
use native.Mathlib.Omega.{arith}
use lib.ListN.{get_or}
use Rattle.laws.specs.Test.{bit}
use Rattle.laws.proofs.Test.{neqb_of}
use Rattle.laws.proofs.Cases.{is_false}
use Rattle.theory.specs.Grants.{is}
use Rattle.theory.specs.Tree.{Tree, Formed}
use Rattle.theory.specs.Cycles.{system, cycle_least, least_of}
use Rattle.table.specs.declared.Location.{Location}
use Rattle.table.specs.declared.Table.{Table}
use Rattle.table.specs.Table.{location_at, tree_of}
use Rattle.table.specs.Rules.{WellFormed}
use Rattle.table.specs.Columns.{parent_column, ticks_column, flag_column, zeros}
use Rattle.table.proofs.Copied.{column_entry}
use Rattle.slice.specs.Changes.{Becomes}
use Rattle.corners.specs.declared.lent.LentTree.{LentTree}
use Rattle.corners.specs.Lent.{lent_tree, flag, Lent}
use Rattle.corners.specs.Trees.{tree_from, asked_by}
use Rattle.bounds.specs.Flagged.{asks, flagged}

-- ---- what the flags ask

flags_ask : (own : Bool) (q : ℕ) → (λ x. is (bit own) (bit (is q x))) ≡ asks own q
flags_ask true q = λ i x. one (is q x) i
  where
    one : (b : Bool) → is 1 (bit b) ≡ b
    one true = refl
    one false = refl
flags_ask false q = λ i x. none (is q x) i
  where
    none : (b : Bool) → is 0 (bit b) ≡ not b
    none true = refl
    none false = refl

-- ---- the tree

module _ (t : Table) (q : ℕ) (some : 1 ≤ q) where
  abbrev tree_with : (ℕ → ℕ) → (ℕ → ℕ) → (ℕ → ℕ) → Tree
  tree_with parent ticks queue = record { size = t.locations; period = t.period; parent = parent; queue = queue; ticks = ticks; variable = zeros; low = zeros; high = zeros }

  flag_is : (v : ℕ) → flag (flag_column t q) v ≡ bit (is q (location_at t v).queue)
  flag_is v =
      let e : false ≡ is q 0 = sym (is_false (is q 0) (neqb_of 0 q (omega arith))) in
      ap bit (ap (get_or (flag_column t q) v) e ∙ column_entry (λ (l : Location). is q l.queue) t.location v)

  module _ (parents ticks : List ℕ) (flags : List Bool) (period : ℕ) (p : parents ≡ parent_column t) (k : ticks ≡ ticks_column t) (f : flags ≡ flag_column t q) (e : period ≡ t.period) where
    pub lent_is : lent_tree parents ticks flags t.locations period ≡ flagged t q
    lent_is =
        (λ i. lent_tree (p i) (k i) (f i) t.locations (e i))
        ∙ (λ i. tree_with (λ v. column_entry (λ (l : Location). l.parent) t.location v i) (λ v. column_entry (λ (l : Location). l.ticks) t.location v i) (λ v. flag_is v i))

    pub lent_table : WellFormed t → Lent parents ticks flags t.locations period
    lent_table w =
        let g : Formed (flagged t q) = record { root = w.formed.root; falls = w.formed.falls; spends = w.formed.spends; whole = w.formed.whole } in
        record { few = w.locations.1; short = omega (arith, w.period.1); formed = subst Formed (sym lent_is) g }

-- ---- the bounds of a tree that is lent for a table

module _ (t : Table) (q : ℕ) (own : Bool) (tree : LentTree) (is_lent : tree_from tree ≡ flagged t q) (asks_own : tree.pass ≡ own) where
  pub leasts_table : (xs ys : List ℕ) → Becomes (2 * tree.period - 1) (least_of (system (tree_from tree)) (asked_by tree)) xs ys
      → Becomes (2 * t.period - 1) (least_of (system (tree_of t)) (asks own q)) xs ys
  leasts_table xs ys b =
      let flags = subst (λ s. Becomes (2 * s.period - 1) (least_of (system s) (asked_by tree)) xs ys) is_lent b in
      let passes = subst (λ o. Becomes (2 * t.period - 1) (least_of (system (flagged t q)) (is (bit o))) xs ys) asks_own flags in
      subst (λ p. Becomes (2 * t.period - 1) (least_of (system (tree_of t)) p) xs ys) (flags_ask own q) passes

  pub cycle_table : cycle_least (system (tree_from tree)) (asked_by tree) ≡ cycle_least (system (tree_of t)) (asks own q)
  cycle_table =
      ap (λ s. cycle_least (system s) (asked_by tree)) is_lent
      ∙ (ap (λ o. cycle_least (system (flagged t q)) (is (bit o))) asks_own
      ∙ ap (λ p. cycle_least (system (tree_of t)) p) (flags_ask own q))
