-- A climb gives the base at 0, and above it f of what the parent gives, where parents fall. Assumes nothing.
use mathlib.Core.Path.{◌≡◌, refl, sym, ap, ◌∙◌}
use mathlib.Core.Logic.{inl, inr}
use Prim.Native.Nat.{ℕ, zero, suc, ◌≤◌, ◌<◌}
use native.Mathlib.Nat.{le_refl}
use native.Mathlib.Omega.{arith}
use lib.Dec.{eqb}
use Rattle.laws.specs.Climb.{climb}
use Rattle.laws.proofs.Test.{le_or_lt, eqb_of, neqb_of, pick_yes, pick_no}

-- every parent stands before its child
abbrev pub Falls : (ℕ → ℕ) → ℕ → Type 0
Falls parent size = (v : ℕ) → 0 < v → v < size → parent v < v

module _ (parent : ℕ → ℕ) (size : ℕ) (falls : Falls parent size) (base : ℕ → ℕ) (f : ℕ → ℕ → ℕ) where
  pub climb_root : (k v : ℕ) → v ≡ 0 → climb parent base f k v ≡ base v
  unfolding climb
  climb_root zero v e = refl
  climb_root (suc k) v e = pick_yes (eqb v 0) _ _ (eqb_of v 0 e)

  -- more calls than v change nothing
  enough : (k l v : ℕ) → v ≤ k → v ≤ l → v < size → climb parent base f k v ≡ climb parent base f l v
  unfolding climb
  enough zero l v a b s = sym (climb_root l v (omega arith))
  enough (suc k) zero v a b s = climb_root (suc k) v (omega arith)
  enough (suc k) (suc l) v a b s = elim (le_or_lt v 0) [
    | inl z ↦ climb_root (suc k) v (omega arith) ∙ sym (climb_root (suc l) v (omega arith))
    | inr z ↦
        let h = falls v z s in
        let n = neqb_of v 0 (omega arith) in
        pick_no (eqb v 0) _ _ n ∙ ap (f v) (enough k l (parent v) (omega arith) (omega arith) (omega arith)) ∙ sym (pick_no (eqb v 0) _ _ n)
  ]

  pub climb_child : (v : ℕ) → 0 < v → v < size → climb parent base f v v ≡ f v (climb parent base f (parent v) (parent v))
  unfolding climb
  climb_child zero z s = absurd (omega arith)
  climb_child (suc v) z s =
      let h = falls (suc v) z s in
      pick_no (eqb (suc v) 0) _ _ (neqb_of (suc v) 0 (omega arith))
      ∙ ap (f (suc v)) (enough v (parent (suc v)) (parent (suc v)) (omega arith) (le_refl _) (omega arith))
