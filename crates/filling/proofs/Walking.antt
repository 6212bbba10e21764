-- The walk upward from a location, and the corner points in their order. Assumes nothing.
use mathlib.Core.Path.{◌≡◌, ◌∙◌}
use mathlib.Core.List.{List}
use mathlib.Core.Logic.{◌⊎◌, inl, inr}
use Prim.Native.Nat.{ℕ, ◌<◌}
use native.Mathlib.Omega.{arith}
use lib.ListN.{length}
use Rattle.theory.specs.Points.{self, below}
use Rattle.table.specs.Columns.{entry}
use Rattle.slice.specs.Changes.{Lowers}
use Rattle.slice.proofs.Lowering.{lowers_same, lowers_then}
use Rattle.corners.specs.declared.lent.LentTree.{LentTree}
use Rattle.corners.specs.declared.columns.Columns.{Columns}
use Rattle.filling.specs.Sets.{Between, Upward, Corners}

module _ (last : ℕ) (t : LentTree) (k : Columns) (a v : ℕ) (xs ys : List ℕ) where
  abbrev Here : ℕ → ℕ → Type 0
  Here = Between k a v

  abbrev From : ℕ → ℕ → ℕ → Type 0
  From b = Upward t k b v

  -- a itself, or above its parent
  from_split : (x y : ℕ) → From a x y → Here x y ⊎ ((0 < a) × From (entry t.parents a) x y)
  from_split x y (b, self, p) = inl p
  from_split x y (b, below v z h, p) = inr (z, (b, h, p))

  pub upward_root : a ≡ 0 → Lowers last Here xs ys → Lowers last (From a) xs ys
  upward_root e = lowers_same last Here (From a) xs ys
      (λ x y p. elim (from_split x y p) [ inl h ↦ h | inr h ↦ absurd (omega (arith, h.0)) ])
      (λ x y h. (a, self, h))

  pub upward_more : (zs : List ℕ) → 0 < a → Lowers last Here xs ys → Lowers last (From (entry t.parents a)) ys zs → Lowers last (From a) xs zs
  upward_more zs z = lowers_then last Here (From (entry t.parents a)) (From a) xs ys zs
      (λ x y p. elim (from_split x y p) [ inl h ↦ inl h | inr h ↦ inr h.1 ])
      (λ x y h. (a, self, h))
      (λ x y h. (h.0, below a z h.1, h.2))

-- ---- all corner points

pub corners_long : {t : LentTree} {k : Columns} {last : ℕ} {xs ys : List ℕ} → Corners t k last xs ys → length ys ≡ length xs
corners_long c = c.stays.long ∙ (c.stretches.long ∙ c.crosses.long)
