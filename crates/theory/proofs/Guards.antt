-- No gap and no overlap at any location, as the sweep and the pairs find them, is what the rules ask of guards: the children that
-- hold a value are the ones whose guards it is in. Assumes nothing.
use mathlib.Core.Bool.{not}
use Prim.Native.Nat.{ℕ, ◌≤◌, ◌<◌}
use native.Mathlib.Omega.{arith}
use lib.Dec.{T, not_T}
use Rattle.laws.proofs.Test.{and_left, and_right, and_both, some_of, none_not}
use Rattle.laws.proofs.Climb.{Falls}
use Rattle.theory.specs.Tree.{Tree, is_child, is_leaf}
use Rattle.theory.specs.Guards.{top, Guarded}
use Rattle.theory.specs.Sweep.{held_by, is_gap, overlaps}
use Rattle.theory.proofs.Paths.{child_parent, child_below}
use Rattle.theory.proofs.Sweep.{held_by_law, Overlap, overlaps_yes, one_holder}

-- each guard holds some value
abbrev pub SomeValue : Tree → Type 0
SomeValue t = (u : ℕ) → 0 < u → u < t.size → (t.low u ≤ t.high u) × (t.high u ≤ top)

-- no location with children has a gap
abbrev pub NoGap : Tree → Type 0
NoGap t = (v : ℕ) → v < t.size → T (not (is_leaf t v)) → (x : ℕ) → x ≤ top → T (not (is_gap (is_child t v) t.low t.high t.size x))

-- no location has an overlap
abbrev pub NoOverlap : Tree → Type 0
NoOverlap t = (v : ℕ) → v < t.size → T (not (overlaps (is_child t v) t.low t.high t.size))

pub guarded : (t : Tree) → Falls t.parent t.size → SomeValue t → NoGap t → NoOverlap t → Guarded t
guarded t falls range full apart = record {
  no_gap = λ v x s l h.
      let (u, a, b) = some_of (held_by (is_child t v) t.low t.high t.size x) t.size (full v s l x h) in
      (u, (a, and_left (is_child t v u) _ b), and_right (is_child t v u) _ b);
  no_overlap = λ v u w x h a b c d.
      let e = child_parent t v u a in
      let s : v < t.size = omega (arith, falls u (child_below t v u a) a.0) in
      one_holder (is_child t v) t.low t.high t.size (apart v s) x u w a.0 b.0 (and_both (is_child t v u) _ a.1 c) (and_both (is_child t v w) _ b.1 d);
  some_value = range;
}

module _ (t : Tree) (is_guarded : Guarded t) where
  pub guarded_no_gap : NoGap t
  guarded_no_gap v s l x h =
      let (u, c, y) = is_guarded.no_gap v x s l h in
      none_not (held_by (is_child t v) t.low t.high t.size x) t.size u c.0 (and_both (is_child t v u) _ c.1 y)

  pub guarded_no_overlap : NoOverlap t
  guarded_no_overlap v s = not_T (overlaps (is_child t v) t.low t.high t.size) (λ y. apart (overlaps_yes (is_child t v) t.low t.high t.size range y))
    where
      range : (u : ℕ) → u < t.size → T (is_child t v u) → t.low u ≤ t.high u
      range u l c = (is_guarded.some_value u (child_below t v u (l, c)) l).0

      apart : Overlap (is_child t v) t.low t.high t.size → ⊥
      apart o =
          let (a, l, h) = held_by_law (is_child t v) t.low t.high t.size o.x o.i o.in_i in
          let (b, k, g) = held_by_law (is_child t v) t.low t.high t.size o.x o.j o.in_j in
          let j-child : o.j < t.size = omega (arith, o.order, o.i_child) in
          let r = is_guarded.some_value o.i (child_below t v o.i (o.i_child, a)) o.i_child in
          let in_i = and_right (is_child t v o.i) _ o.in_i in
          let in_j = and_right (is_child t v o.j) _ o.in_j in
          omega (arith, o.order, is_guarded.no_overlap v o.i o.j o.x (omega (arith, r.1)) (o.i_child, a) (j-child, b) in_i in_j)
