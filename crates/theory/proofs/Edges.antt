-- Windows from edge to edge decide: each end of a window moves to an edge of its block, outward where the count stands still,
-- inward where it grows with every tick, and neither way counts more. Assumes nothing.
use mathlib.Core.Path.{◌≡◌}
use mathlib.Core.Logic.{◌⊎◌, inl, inr}
use Prim.Native.Nat.{ℕ, ◌+◌, ◌-◌, ◌≤◌, ◌<◌}
use native.Mathlib.Omega.{arith}
use Rattle.laws.proofs.Test.{le_or_lt}

-- F grows by 0 or 1 with each tick
abbrev pub Slow : (ℕ → ℕ) → Type 0
Slow F = (a b : ℕ) → a ≤ b → (F a ≤ F b) × (F b + a ≤ F a + b)

-- so a bound at one length bounds every other
pub slow_from : (F : ℕ → ℕ) → Slow F → (t n : ℕ) → F t ≤ F n + (t - n)
slow_from F slow t n = elim (le_or_lt n t) [ inl g ↦ omega (arith, slow n t g) | inr g ↦ omega (arith, slow t n (omega arith)) ]

-- around y a stretch from edge to edge in which F either stands still or grows with every tick
pub record Block (F : ℕ → ℕ) (E : ℕ → Type 0) (L U : ℕ → ℕ) (y : ℕ) : Type 0 where
  pub lo : ℕ
  pub hi : ℕ
  pub lo_edge : E lo
  pub hi_edge : E hi
  pub below : lo ≤ y
  pub above : y < hi
  pub lower : L y ≤ lo
  pub upper : hi ≤ U y
  pub flat : (F hi ≡ F lo) ⊎ (F hi + lo ≡ F lo + hi)

-- a window from edge x to edge e, which bounds the windows of w ticks at least as well as the one from s
pub record Decides (F : ℕ → ℕ) (E : ℕ → Type 0) (L U : ℕ → ℕ) (s w : ℕ) : Type 0 where
  pub x : ℕ
  pub e : ℕ
  pub x_edge : E x
  pub e_edge : E e
  pub some : x < e
  pub lower : L s ≤ x
  pub upper : e ≤ U (s + w)
  pub value : F e - F x + (w - (e - x)) ≤ F (s + w) - F s

module _ (F : ℕ → ℕ) (E : ℕ → Type 0) (L U : ℕ → ℕ) (slow : Slow F) (block : (y : ℕ) → Block F E L U y) where
  -- an edge to start at in place of y: what it adds in front is not counted, what it leaves out is counted
  starts : (y : ℕ) → (x : ℕ) × E x × (L y ≤ x) × (F y ≤ F x) × (F y + x ≤ F x + y)
  starts y =
      let b = block y in
      let i = slow b.lo y b.below in
      let j = slow y b.hi (omega (arith, b.above)) in
      elim b.flat [
        | inl m ↦ (b.lo, b.lo_edge, b.lower, omega arith, omega (arith, b.below))
        | inr m ↦ (b.hi, b.hi_edge, omega (arith, b.lower, b.below, b.above), omega arith, omega arith)
      ]

  -- and an edge to end at
  ends : (y : ℕ) → (e : ℕ) × E e × (e ≤ U y) × (F e ≤ F y) × (F e + y ≤ F y + e)
  ends y =
      let b = block y in
      let i = slow b.lo y b.below in
      let j = slow y b.hi (omega (arith, b.above)) in
      elim b.flat [
        | inl m ↦ (b.hi, b.hi_edge, b.upper, omega arith, omega (arith, b.above))
        | inr m ↦ (b.lo, b.lo_edge, omega (arith, b.below, b.above, b.upper), omega arith, omega arith)
      ]

  -- the empty window, or one from edge to edge
  pub edges : (s w : ℕ) → (w ≤ F (s + w) - F s) ⊎ Decides F E L U s w
  edges s w =
      let (x, p, l, a, b) = starts s in
      let (e, q, u, c, d) = ends (s + w) in
      elim (le_or_lt e x) [
        | inl h ↦ inl (omega (arith, slow e x h))
        | inr h ↦ inr (record { x = x; e = e; x_edge = p; e_edge = q; some = h; lower = l; upper = u; value = omega (arith, slow x e (omega arith)) })
      ]
