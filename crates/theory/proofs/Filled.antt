-- What the points make of a slice: where no entry is below the bound and every deciding point has lowered its entry, the
-- two passes leave the bounds. Assumes nothing.
use mathlib.Core.Path.{◌≡◌}
use mathlib.Core.Bool.{Bool}
use Prim.Native.Nat.{ℕ, suc, ◌*◌, ◌≤◌, ◌<◌, min}
use native.Mathlib.Omega.{arith}
use Rattle.theory.specs.Tree.{Tree, Formed}
use Rattle.theory.specs.Points.{Point}
use Rattle.theory.specs.Filling.{filling}
use Rattle.theory.proofs.Filling.{fills}
use Rattle.theory.proofs.Points.{bound, bound_slow, point_sound, Deciding}

module _ (t : Tree) (formed : Formed t) (p : ℕ → Bool) (O C : ℕ → Bool) (K last : ℕ) where
  -- the entries 0 to last before the passes; a point that is longer lowers the last
  pub record Lowered (out : ℕ → ℕ) : Type 0 where
    pub not_below : (n : ℕ) → n ≤ last → bound t formed p n ≤ out n
    pub every : (n m : ℕ) → Point t p O C K n m → out (min n last) ≤ m

  -- a point may lower its entry
  pub may_lower : (n m : ℕ) → Point t p O C K n m → bound t formed p (min n last) ≤ m
  may_lower n m q = omega (arith, point_sound t formed p O C K n m q (min n last))

  pub filled : Deciding t formed p O C → last < suc K * t.period → (out : ℕ → ℕ) → Lowered out → (w : ℕ) → w ≤ last → filling out last w ≡ bound t formed p w
  filled decide few out l =
      fills out last (bound t formed p) (bound_slow t formed p) l.not_below
      (λ w h. let (n, m, q, g) = decide w K (omega arith) in (n, m, l.every n m q, g))
