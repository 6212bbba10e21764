-- Windows to a cycle's end and across it: none has fewer ticks that pass than the bound, also with a whole cycle more; and what ends with
-- the cycle is a leaf. Assumes nothing.
use mathlib.Core.Path.{sym, subst}
use mathlib.Core.Bool.{Bool}
use mathlib.Core.Logic.{inl, inr}
use Prim.Native.Nat.{ℕ, ◌+◌, ◌-◌, ◌*◌, ◌≤◌, ◌<◌, min}
use native.Mathlib.Omega.{arith}
use Rattle.laws.specs.Test.{any}
use Rattle.theory.specs.Tree.{Tree, Leaf, upto, start, end, Formed, own}
use Rattle.theory.specs.Cycles.{system, cycle_least}
use Rattle.theory.specs.Points.{rest, Point, within, crosses}
use Rattle.theory.proofs.Edges.{slow_from}
use Rattle.theory.proofs.Paths.{child_of, child_start, some_tick}
use Rattle.theory.proofs.Above.{above_step, above_inside, above_upto, leaf_above}
use Rattle.theory.proofs.Cycles.{least_one_period}
use Rattle.theory.proofs.Runs.{sound}
use Rattle.theory.proofs.Period.{cycle_least_law}
use Rattle.theory.proofs.Points.{bound, bound_slow, rest_at}
use Rattle.theory.proofs.Filled.{may_lower}

pub ends_with_cycle : (t : Tree) → Formed t → (v : ℕ) → v < t.size → t.period ≤ end t v → Leaf t v
ends_with_cycle t formed v s h =
    let (l, w, g) = leaf_above t formed v s in
    elim (above_step l g) [
      | inl e ↦ subst (Leaf t) (sym e) w
      | inr (b, i, z, q) ↦
          let m = above_inside t formed.falls l i w.0 in
          absurd (omega (arith, child_start t formed v b (child_of t v b z m q), formed.spends b m, above_upto t formed.falls t.ticks l i w.0, formed.whole l w))
    ]

module _ (t : Tree) (formed : Formed t) (p : ℕ → Bool) where
  abbrev last : ℕ
  last = 2 * t.period - 1

  abbrev cycle : ℕ
  cycle = cycle_least (system t) p

  -- a length and a count that may lower their entry, also with a whole cycle more
  abbrev pub Stretches : ℕ → ℕ → Type 0
  Stretches x y = (bound t formed p (min x last) ≤ y) × (bound t formed p (min (x + t.period) last) ≤ y + cycle)

  may : (x y : ℕ) → Point t p any any 1 x y → bound t formed p (min x last) ≤ y
  may = may_lower t formed p any any 1 last

  pub to_end : (a : ℕ) → a < t.size → Stretches (t.period - start t a) (rest t p a)
  to_end a s =
      let (l, w, h, e) = rest_at t formed p a s in
      let c = cycle_least_law t formed p in (
        may _ _ (within a l tt tt w.0 h (omega (arith, formed.whole l w)) (sym e)),
        may _ _ (crosses a 0 c.leaf tt tt s (omega arith) c.leaf_is_leaf.0 (omega (arith, formed.whole c.leaf c.leaf_is_leaf)) (omega (arith, c.met))),
      )

  pub to_location : (a v : ℕ) → a < t.size → v < t.size → Stretches (t.period - start t a + end t v) (rest t p a + upto t (own t p) v)
  to_location a v s l = (
    may _ _ (crosses a 0 v tt tt s (omega arith) l (omega arith) (omega arith)),
    may _ _ (crosses a 1 v tt tt s (omega arith) l (omega arith) (omega arith)),
  )

  -- so with the length alone
  pub whole_length : (i : ℕ) → bound t formed p (min (i + t.period) last) ≤ i + cycle
  whole_length i =
      omega (arith, some_tick t formed, least_one_period (system t) (sound t formed) p, slow_from (bound t formed p) (bound_slow t formed p) (min (i + t.period) last) t.period)
