-- The flags that the judge computes, as the rules say them. Assumes nothing.
use mathlib.Core.Path.{◌≡◌, sym, ap, ◌∙◌}
use mathlib.Core.Bool.{Bool, true, false, not, ◌&&◌, ◌||◌}
use mathlib.Core.Logic.{inl, inr}
use Prim.Native.Nat.{ℕ}
use lib.Dec.{leb, ltb}
use borrow.Author.Tests.{lt-ltb, le-ltb, le-leb, lt-leb}
use Rattle.laws.proofs.Test.{le_or_lt}

pub ltb_is_not_leb : (a b : ℕ) → ltb b a ≡ not (leb a b)
ltb_is_not_leb a b = elim (le_or_lt a b) [
  | inl h ↦ le-ltb b a h ∙ sym (ap not (le-leb a b h))
  | inr h ↦ lt-ltb b a h ∙ sym (ap not (lt-leb a b h))
]

-- ---- the flags of SHAPE: placed, variable 0, leaf

pub not_placed : (p x : Bool) → p ≡ false → true ≡ not (p && x)
not_placed p x e = rw e

pub no_variable : (p z x : Bool) → p ≡ true → z ≡ true → false ≡ not (p && (z || x))
no_variable p z x e f = rw (e, f)

pub leaf_decides : (p z x : Bool) → p ≡ true → z ≡ false → x ≡ not (p && (z || not x))
leaf_decides p z true e f = rw (e, f)
leaf_decides p z false e f = rw (e, f)

pub both_true : (p z x : Bool) → p ≡ true → z ≡ true → (p && (z && x)) ≡ x
both_true p z x e f = rw (e, f)

-- ---- the flags of PERIOD

pub no_leaf : (p x : Bool) → p ≡ false → false ≡ (p && x)
no_leaf p x e = rw e

pub leaf_and : (p x : Bool) → p ≡ true → x ≡ (p && x)
leaf_and p x e = rw e
