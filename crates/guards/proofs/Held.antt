-- The guards of a location's children: what the search for a value finds, what the sweep passes over, and what the widths tell of
-- overlaps where there is no gap. Assumes nothing.
use mathlib.Core.Path.{◌≡◌, refl, sym, ap, ◌∙◌}
use mathlib.Core.Bool.{Bool, true, false, not, ◌&&◌}
use mathlib.Core.Logic.{inl, inr}
use Prim.Native.Nat.{ℕ, suc, ◌+◌, ◌-◌, ◌≤◌, ◌<◌, zero-le}
use native.Mathlib.Omega.{arith}
use native.Mathlib.Numerals.{add-one}
use lib.Dec.{T, T_not, not_T, eqb, eqb→eq, leb, leb→le, le→leb, ltb, ltb→lt, lt→ltb}
use borrow.Author.Tests.{lt-ltb, le-ltb}
use Rattle.laws.specs.Test.{pick, none}
use Rattle.laws.specs.Sum.{sum}
use Rattle.laws.specs.Found.{Found, nobody, at, first, IsFirst}
use Rattle.laws.proofs.Test.{either, le_or_lt, and_left, and_right, and_both, and_fails_left, and_fails_right, eqb_of, pick_yes, pick_no, some_of, none_not, none_all, none_each}
use Rattle.laws.proofs.Sum.{sum_last₀, sum_zero}
use Rattle.laws.proofs.First.{first_is, first_found, first_none}
use Rattle.laws.proofs.Cases.{is_true, is_false, of_false, not_not}
use Rattle.theory.specs.Tree.{Tree, is_child, is_leaf}
use Rattle.theory.specs.Guards.{top, holds, or_root, onto}
use Rattle.theory.specs.Sweep.{overlaps}
use Rattle.theory.proofs.Guards.{SomeValue}
use Rattle.theory.proofs.Sweep.{Overlap, overlaps_yes, widths_yes, widths_no}
use Rattle.guards.specs.Children.{leads_in, gap_in, overlap_in, widths_in}

module _ (t : Tree) (v : ℕ) where
  -- ---- the child that a value leads to

  child_of : (u : ℕ) → 0 < u → t.parent u ≡ v → T (is_child t v u)
  child_of u z e = and_both (ltb 0 u) (eqb (t.parent u) v) (lt→ltb 0 u z) (eqb_of (t.parent u) v e)

  no_child : (u : ℕ) → (t.parent u ≡ v → ⊥) → T (not (is_child t v u))
  no_child u n = not_T (is_child t v u) (λ y. n (eqb→eq (t.parent u) v (and_right (ltb 0 u) _ y)))

  child_above : (u : ℕ) → T (is_child t v u) → 0 < u
  child_above u y = ltb→lt 0 u (and_left (ltb 0 u) _ y)

  pub leads_yes : (x u : ℕ) → 0 < u → t.parent u ≡ v → holds t x u ≡ true → T (leads_in t v x u)
  leads_yes x u z e h = and_both (is_child t v u) (holds t x u) (child_of u z e) (rw h tt)

  pub leads_no_child : (x u : ℕ) → (t.parent u ≡ v → ⊥) → T (not (leads_in t v x u))
  leads_no_child x u n = and_fails_left (is_child t v u) (holds t x u) (no_child u n)

  pub leads_no_guard : (x u : ℕ) → holds t x u ≡ false → T (not (leads_in t v x u))
  leads_no_guard x u h = not_T (leads_in t v x u) (λ y. T_not (holds t x u) (of_false (holds t x u) h) (and_right (is_child t v u) _ y))

  -- no location below u leads on with x
  abbrev pub NoneBelow : ℕ → ℕ → Type 0
  NoneBelow x u = (i : ℕ) → i < u → T (not (leads_in t v x i))

  pub onto_found : (x u : ℕ) → u < t.size → T (leads_in t v x u) → NoneBelow x u → u ≡ onto t v x
  onto_found x u l y h = sym (ap or_root (first_found (leads_in t v x) 0 t.size u zero-le (omega arith) y (λ i a b. h i b)))

  pub onto_none : (x : ℕ) → NoneBelow x t.size → 0 ≡ onto t v x
  onto_none x h = sym (ap or_root (first_none (leads_in t v x) 0 t.size (λ i a b. h i (omega arith))))

  -- the root is nobody's child
  pub onto_zero : (x : ℕ) → onto t v x ≡ 0 → T (none (leads_in t v x) t.size)
  unfolding IsFirst
  onto_zero x e = go (first (leads_in t v x) 0 t.size) (first_is (leads_in t v x) 0 t.size) e
    where
      go : (o : Found) → IsFirst (leads_in t v x) 0 t.size o → or_root o ≡ 0 → T (none (leads_in t v x) t.size)
      go nobody h z = none_all (leads_in t v x) t.size (λ i l. h i zero-le (omega arith))
      go (at u) h z = absurd (omega (arith, child_above u (and_left (is_child t v u) _ h.2)))

  pub onto_some : (x : ℕ) → (onto t v x ≡ 0 → ⊥) → (onto t v x < t.size) × T (leads_in t v x (onto t v x))
  unfolding IsFirst
  onto_some x n = go (first (leads_in t v x) 0 t.size) (first_is (leads_in t v x) 0 t.size) n
    where
      go : (o : Found) → IsFirst (leads_in t v x) 0 t.size o → (or_root o ≡ 0 → ⊥) → (or_root o < t.size) × T (leads_in t v x (or_root o))
      go nobody h z = absurd (z refl)
      go (at u) h z = (omega (arith, h.1), h.2)

  -- ---- gaps

  -- no child's guard holds x
  abbrev pub is_out : ℕ → Bool
  is_out x = none (leads_in t v x) t.size

  -- each value below x is in some child's guard
  abbrev pub FullBelow : ℕ → Type 0
  FullBelow x = (y : ℕ) → y < x → T (not (is_out y))

  -- a child that holds x holds what follows, up to its high
  pub full_more : (x u : ℕ) → FullBelow x → u < t.size → T (leads_in t v x u) → FullBelow (t.high u + 1)
  full_more x u h l y z m = elim (le_or_lt x z) [
    | inl a ↦
        let r = and_right (is_child t v u) (holds t x u) y in
        let low = leb→le (t.low u) x (and_left (leb (t.low u) x) _ r) in
        let in-guard = and_both (leb (t.low u) z) (leb z (t.high u)) (le→leb (t.low u) z (omega arith)) (le→leb z (t.high u) (omega arith)) in
        none_not (leads_in t v z) t.size u l (and_both (is_child t v u) (holds t z u) (and_left (is_child t v u) _ y) in-guard)
    | inr a ↦ h z a
  ]

  pub leads_high : (x u : ℕ) → T (leads_in t v x u) → (0 < u) × (x ≤ t.high u)
  leads_high x u y = (
    child_above u (and_left (is_child t v u) _ y),
    leb→le x (t.high u) (and_right (leb (t.low u) x) _ (and_right (is_child t v u) (holds t x u) y)),
  )

  pub gap_leaf : is_leaf t v ≡ true → gap_in t v ≡ false
  gap_leaf e = rw e

  pub gap_yes : (x : ℕ) → is_leaf t v ≡ false → x ≤ top → T (is_out x) → gap_in t v ≡ true
  gap_yes x e l y = is_true (gap_in t v) (and_both (not (is_leaf t v)) _ (rw e tt) (none_not is_out (suc top) x (omega arith) y))

  pub gap_no : FullBelow (suc top) → gap_in t v ≡ false
  gap_no h =
      is_false (gap_in t v)
      (not_T (gap_in t v) (λ y. T_not (none is_out (suc top)) (and_right (not (is_leaf t v)) _ y) (none_all is_out (suc top) h)))

  gap_none : T (not (gap_in t v)) → T (not (is_leaf t v)) → FullBelow (suc top)
  gap_none n l x m = none_each is_out (suc top) x (not_not (none is_out (suc top)) (and_fails_right (not (is_leaf t v)) _ n l)) m

  -- ---- widths

  pub widths_root : widths_in t v 1 ≡ 0
  unfolding sum
  widths_root = refl

  pub widths_child : (u : ℕ) → 0 < u → t.parent u ≡ v → widths_in t v (u + 1) ≡ widths_in t v u + (suc (t.high u) - t.low u)
  widths_child u z e = rw add-one (omega (arith, sum_last₀ (λ i. pick (is_child t v i) (suc (t.high i) - t.low i) 0) u, pick_yes (is_child t v u) (suc (t.high u) - t.low u) 0 (child_of u z e)))

  pub widths_other : (u : ℕ) → (t.parent u ≡ v → ⊥) → widths_in t v (u + 1) ≡ widths_in t v u
  widths_other u n = rw add-one (omega (arith, sum_last₀ (λ i. pick (is_child t v i) (suc (t.high i) - t.low i) 0) u, pick_no (is_child t v u) (suc (t.high u) - t.low u) 0 (no_child u n)))

  leaf_widths : T (is_leaf t v) → widths_in t v t.size ≡ 0
  leaf_widths y =
      sum_zero (λ i. pick (is_child t v i) (suc (t.high i) - t.low i) 0) 0 t.size
      (λ i l. pick_no (is_child t v (0 + i)) _ 0 (none_each (is_child t v) t.size (0 + i) y (omega arith)))

  -- ---- overlaps

  abbrev Shared : Type 0
  Shared = Overlap (is_child t v) t.low t.high t.size

  -- the children of which two hold x, as the rule says it
  abbrev twice : ℕ → ℕ → Bool
  twice x u = leads_in t v x u && not (none (leads_in t v x) u)

  shared_of : T (overlap_in t v) → Shared
  shared_of y =
      let (x, l, a) = some_of (λ x. not (none (twice x) t.size)) (suc top) y in
      let (u, m, b) = some_of (twice x) t.size a in
      let (w, g, d) = some_of (leads_in t v x) u (and_right (leads_in t v x u) _ b) in
      record { i = u; j = w; x = x; i_child = m; order = g; in_i = and_left (leads_in t v x u) _ b; in_j = d }

  overlap_of : SomeValue t → Shared → T (overlap_in t v)
  overlap_of range o =
      let h = leads_high o.x o.i o.in_i in
      let a = and_both (leads_in t v o.x o.i) _ o.in_i (none_not (leads_in t v o.x) o.i o.j o.order o.in_j) in
      none_not (λ x. not (none (twice x) t.size)) (suc top) o.x
      (omega (arith, h, range o.i h.0 o.i_child))
      (none_not (twice o.x) t.size o.i o.i_child a)

  module _ (range : SomeValue t) (full : T (not (gap_in t v))) where
    highs : (u : ℕ) → u < t.size → T (is_child t v u) → t.high u ≤ top
    highs u l y = (range u (child_above u y) l).1

    lows : (u : ℕ) → u < t.size → T (is_child t v u) → t.low u ≤ t.high u
    lows u l y = (range u (child_above u y) l).0

    apart : T (not (overlap_in t v)) → T (not (overlaps (is_child t v) t.low t.high t.size))
    apart n =
        not_T (overlaps (is_child t v) t.low t.high t.size)
        (λ y. T_not (overlap_in t v) n (overlap_of range (overlaps_yes (is_child t v) t.low t.high t.size lows y)))

    -- where there is no gap, two children share a value exactly where the widths are more than the values
    pub overlap_by_widths : ltb (suc top) (widths_in t v t.size) ≡ overlap_in t v
    overlap_by_widths = elim (either (is_leaf t v)) [
      | inl l ↦ elim (either (overlap_in t v)) [
        | inl y ↦
            let o = shared_of y in
            absurd (T_not (is_child t v o.i) (none_each (is_child t v) t.size o.i l o.i_child) (and_left (is_child t v o.i) _ o.in_i))
        | inr n ↦ le-ltb (suc top) (widths_in t v t.size) (omega (arith, leaf_widths l)) ∙ sym (is_false (overlap_in t v) n)
      ]
      | inr l ↦
          let each : (x : ℕ) → x ≤ top → T (not (is_out x)) = λ x m. gap_none full l x (omega arith) in
          elim (either (overlap_in t v)) [
            | inl y ↦ lt-ltb _ _ (widths_no (is_child t v) t.low t.high t.size top highs each (shared_of y)) ∙ sym (is_true (overlap_in t v) y)
            | inr n ↦
                let e = widths_yes (is_child t v) t.low t.high t.size top highs each (apart n) in
                le-ltb (suc top) (widths_in t v t.size) (omega arith) ∙ sym (is_false (overlap_in t v) n)
          ]
    ]
