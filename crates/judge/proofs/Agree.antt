-- What the rules say of a table's columns is what they say of the table. Assumes nothing.
use mathlib.Core.Path.{◌≡◌, ap, ◌∙◌}
use mathlib.Core.Bool.{false, not, ◌&&◌, ◌||◌}
use mathlib.Core.List.{List}
use Prim.Native.Nat.{ℕ, ◌≤◌, ◌<◌}
use native.Mathlib.Omega.{arith}
use lib.Dec.{T, eqb, leb, leb→le, ltb, ltb→lt}
use Rattle.laws.specs.Found.{Found, first}
use Rattle.laws.proofs.Test.{and_left, and_right}
use Rattle.laws.proofs.Climb.{Falls}
use Rattle.laws.proofs.Cases.{of_false, not_not}
use Rattle.theory.specs.Tree.{is_leaf, end}
use Rattle.theory.proofs.Guards.{SomeValue}
use Rattle.table.specs.declared.Table.{Table}
use Rattle.table.specs.Table.{location_at, tree_of}
use Rattle.table.specs.Ranged.{Ranged}
use Rattle.table.specs.Columns.{parent_column, ticks_column, low_column, high_column, entry, zeros, tree_over, leaf_over, misses_period}
use Rattle.table.specs.Rules.{within, is_placed, breaks_count, breaks_value, breaks_shape, breaks_gap, breaks_overlap, breaks_period, lowest_location}
use Rattle.table.proofs.Copied.{column_entry}
use Rattle.guards.specs.declared.Guards.{Guards}
use Rattle.guards.specs.Children.{guards_over, gap_in, overlap_in}
use Rattle.guards.specs.Lent.{guards_of, ReadFrom}
use Rattle.judge.proofs.Placed.{placed_child}

module _ (t : Table) where
  -- ---- the columns' entries

  parent_is : entry (parent_column t) ≡ (λ v. (location_at t v).parent)
  parent_is = λ i v. column_entry (λ l. l.parent) t.location v i

  ticks_is : entry (ticks_column t) ≡ (λ v. (location_at t v).ticks)
  ticks_is = λ i v. column_entry (λ l. l.ticks) t.location v i

  low_is : entry (low_column t) ≡ (λ v. (location_at t v).low)
  low_is = λ i v. column_entry (λ l. l.low) t.location v i

  high_is : entry (high_column t) ≡ (λ v. (location_at t v).high)
  high_is = λ i v. column_entry (λ l. l.high) t.location v i

  -- ---- the rules

  -- VALUE: each guard holds some value
  pub low_first : ((v : ℕ) → v < t.locations → T (not (breaks_value t v))) → (v : ℕ) → v < t.locations → (location_at t v).low ≤ (location_at t v).high
  low_first n v s =
      let a = location_at t v in
      let ok = not_not (within 1 1024 a.ticks && (leb a.queue t.queues && (leb a.variable 7 && leb a.low a.high))) (n v s) in
      let rest = and_right (leb a.queue t.queues) (leb a.variable 7 && leb a.low a.high) (and_right (within 1 1024 a.ticks) _ ok) in
      leb→le a.low a.high (and_right (leb a.variable 7) (leb a.low a.high) rest)

  module _ (parents : List ℕ) (p : parents ≡ parent_column t) where
    pub leaf_agrees : (v : ℕ) → leaf_over parents t.locations v ≡ is_leaf (tree_of t) v
    leaf_agrees v = ap (λ f. is_leaf (tree_over t.locations f zeros zeros zeros) v) (ap entry p ∙ parent_is)

    pub shape_agrees : (v : ℕ) → not (is_placed (location_at t v) v && (eqb (location_at t v).variable 0 || not (leaf_over parents t.locations v))) ≡ breaks_shape t v
    shape_agrees v = ap (λ b. not (is_placed (location_at t v) v && (eqb (location_at t v).variable 0 || not b))) (leaf_agrees v)

    pub period_agrees : (ticks : List ℕ) → ticks ≡ ticks_column t → first (misses_period parents ticks t.locations t.period) 0 t.locations ≡ lowest_location t breaks_period
    period_agrees ticks k =
        let p' = ap entry p ∙ parent_is in
        let k' = ap entry k ∙ ticks_is in
        λ i. first (λ v. is_leaf (tree_over t.locations (p' i) zeros zeros zeros) v && not (eqb (end (tree_over 0 (p' i) (k' i) zeros zeros) v) t.period)) 0 t.locations

    module _ (lows highs : List ℕ) (l : lows ≡ low_column t) (h : highs ≡ high_column t) where
      guards_are : (q : (ℕ → ℕ) → (ℕ → ℕ) → (ℕ → ℕ) → Found) → q (entry parents) (entry lows) (entry highs) ≡ q (tree_of t).parent (tree_of t).low (tree_of t).high
      guards_are q =
          let p' = ap entry p ∙ parent_is in
          let l' = ap entry l ∙ low_is in
          let h' = ap entry h ∙ high_is in
          λ i. q (p' i) (l' i) (h' i)

      pub gap_agrees : first (gap_in (guards_over parents lows highs t.locations)) 0 t.locations ≡ lowest_location t breaks_gap
      gap_agrees = guards_are (λ p l h. first (gap_in (tree_over t.locations p zeros l h)) 0 t.locations)

      pub overlap_agrees : first (overlap_in (guards_over parents lows highs t.locations)) 0 t.locations ≡ lowest_location t breaks_overlap
      overlap_agrees = guards_are (λ p l h. first (overlap_in (tree_over t.locations p zeros l h)) 0 t.locations)

      pub some_value : Ranged t → ((v : ℕ) → v < t.locations → T (not (breaks_value t v))) → SomeValue (guards_over parents lows highs t.locations)
      some_value r n u z s =
          let low = ap (λ (f : ℕ → ℕ). f u) (ap entry l ∙ low_is) in
          let high = ap (λ (f : ℕ → ℕ). f u) (ap entry h ∙ high_is) in
          (omega (arith, low_first n u s), omega (arith, (r.location u).high))

    -- SHAPE: parents fall
    pub falls : ((v : ℕ) → v < t.locations → T (not (breaks_shape t v))) → Falls (entry parents) t.locations
    falls n v z s =
        let a = location_at t v in
        let ok = not_not (is_placed a v && (eqb a.variable 0 || not (is_leaf (tree_of t) v))) (n v s) in
        let placed : T (ltb a.parent v) = rw (placed_child a v (omega arith)) at (and_left (is_placed a v) _ ok) in
        omega (arith, ap (λ (f : ℕ → ℕ). f v) (ap entry p ∙ parent_is), ltb→lt a.parent v placed)

  -- ---- guards that are read from the table

  module _ (g : Guards) (read : ReadFrom t g) where
    pub shape_read : (v : ℕ) → not (is_placed (location_at t v) v && (eqb (location_at t v).variable 0 || not (leaf_over g.parents g.n v))) ≡ breaks_shape t v
    shape_read v =
        ap (λ n. not (is_placed (location_at t v) v && (eqb (location_at t v).variable 0 || not (leaf_over g.parents n v)))) read.n
        ∙ shape_agrees g.parents read.parents v

    pub gap_read : first (gap_in (guards_of g)) 0 g.n ≡ lowest_location t breaks_gap
    gap_read =
        ap (λ n. first (gap_in (guards_over g.parents g.lows g.highs n)) 0 n) read.n
        ∙ gap_agrees g.parents read.parents g.lows g.highs read.lows read.highs

    pub overlap_read : first (overlap_in (guards_of g)) 0 g.n ≡ lowest_location t breaks_overlap
    overlap_read =
        ap (λ n. first (overlap_in (guards_over g.parents g.lows g.highs n)) 0 n) read.n
        ∙ overlap_agrees g.parents read.parents g.lows g.highs read.lows read.highs

    pub period_read : (ticks : List ℕ) → ticks ≡ ticks_column t → first (misses_period g.parents ticks g.n t.period) 0 g.n ≡ lowest_location t breaks_period
    period_read ticks k = ap (λ n. first (misses_period g.parents ticks n t.period) 0 n) read.n ∙ period_agrees g.parents read.parents ticks k

    pub falls_read : ((v : ℕ) → v < t.locations → T (not (breaks_shape t v))) → Falls (entry g.parents) g.n
    falls_read n v z l = falls g.parents read.parents n v z (omega (arith, l, read.n))

  -- COUNT: locations and tasks are in their limits
  pub count_kept : breaks_count t ≡ false → (1 ≤ t.locations) × (t.locations ≤ 128) × (t.tasks ≤ 32)
  count_kept e =
      let ok = not_not (within 1 128 t.locations && leb t.tasks 32) (of_false (breaks_count t) e) in
      let w = and_left (within 1 128 t.locations) _ ok in (
        leb→le 1 t.locations (and_left (leb 1 t.locations) _ w),
        leb→le t.locations 128 (and_right (leb 1 t.locations) _ w),
        leb→le t.tasks 32 (and_right (within 1 128 t.locations) _ ok),
      )
