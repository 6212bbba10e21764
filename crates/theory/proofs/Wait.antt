-- The wait: the search up to P + c P finds it, unless some cycle has none; and from one period on, a period more is the wait
-- for a cycle's least more. Assumes nothing.
use mathlib.Core.Path.{◌≡◌}
use mathlib.Core.Bool.{Bool}
use mathlib.Core.Logic.{inl, inr}
use Prim.Native.Nat.{ℕ, suc, ◌+◌, ◌-◌, ◌*◌, ◌≤◌, ◌<◌, zero-le}
use native.Mathlib.Nat.{le_refl, mul-le-mul_left}
use native.Mathlib.Omega.{arith}
use lib.Dec.{leb, leb→le, nleb→lt}
use Rattle.laws.specs.Found.{Found, nobody, at, IsFirst}
use Rattle.laws.proofs.Test.{le_or_lt}
use Rattle.laws.proofs.First.{first_is}
use Rattle.theory.specs.Bounds.{Streams}
use Rattle.theory.specs.Tree.{Tree, Formed, grants, CycleLeast}
use Rattle.theory.specs.Verdict.{Wait}
use Rattle.theory.specs.Cycles.{system, cycle_least}
use Rattle.theory.specs.Search.{wait, WaitSays}
use Rattle.theory.proofs.Bounds.{least_unique}
use Rattle.theory.proofs.Paths.{some_tick}
use Rattle.theory.proofs.Cycles.{least_period, least_periods, least_one_period}
use Rattle.theory.proofs.Runs.{sound, tree_least}
use Rattle.theory.proofs.Period.{cycle_least_law, cycle_least_unique}
use Rattle.theory.proofs.Points.{bound, bound_slow}

pub wait_unique : (G : Streams) {p : ℕ → Bool} (c t u : ℕ) → Wait G p c t → Wait G p c u → t ≡ u
wait_unique G c t u a b = elim (le_or_lt t u) [
  | inl h ↦ elim (le_or_lt u t) [
    | inl g ↦ omega arith
    | inr g ↦ absurd (omega (arith, b.shortest t a.supply g a.supplies, a.reached))
  ]
  | inr h ↦ absurd (omega (arith, a.shortest u b.supply h b.supplies, b.reached))
]

module _ (t : Tree) (formed : Formed t) (p : ℕ → Bool) where
  abbrev P : ℕ
  P = t.period

  abbrev least : ℕ → ℕ
  least = bound t formed p

  -- the wait, in terms of the computed least
  wait_from : (c w : ℕ) → c ≤ least w → ((v : ℕ) → v < w → least v < c) → Wait (grants t) p c w
  wait_from c w a b = record {
    supply = least w;
    supplies = tree_least t formed p w;
    reached = a;
    shortest = λ v m h l. omega (arith, b v h, least_unique (grants t) l (tree_least t formed p v));
  }

  wait_reached : (c w : ℕ) → Wait (grants t) p c w → c ≤ least w
  wait_reached c w x = omega (arith, x.reached, least_unique (grants t) x.supplies (tree_least t formed p w))

  wait_sooner : (c w v : ℕ) → Wait (grants t) p c w → v < w → least v < c
  wait_sooner c w v x h = x.shortest v (least v) h (tree_least t formed p v)

  -- ---- never

  -- where some cycle has none, neither has some window of any length
  least_never : CycleLeast t p 0 → (w : ℕ) → least w ≡ 0
  least_never z w =
      let c : w * cycle_least (system t) p ≡ 0 = rw (cycle_least_unique t p (cycle_least (system t) p) 0 (cycle_least_law t formed p) z) (omega arith) in
      omega (
        arith,
        bound_slow t formed p w (P + w * P) (omega (arith, mul-le-mul_left w (some_tick t formed))),
        least_periods (system t) (sound t formed) p w P (le_refl P),
        least_one_period (system t) (sound t formed) p,
        cycle_least_unique t p (cycle_least (system t) p) 0 (cycle_least_law t formed p) z,
      )

  pub wait_never : (c w : ℕ) → 1 ≤ c → CycleLeast t p 0 → Wait (grants t) p c w → ⊥
  wait_never c w h z x = absurd (omega (arith, wait_reached c w x, least_never z w))

  -- ---- the search

  -- c periods and one more are enough where every cycle has a tick
  reaches : (c : ℕ) → 1 ≤ cycle_least (system t) p → c ≤ least (P + c * P)
  reaches c h = omega (arith, least_periods (system t) (sound t formed) p c P (le_refl P), mul-le-mul_left c h)

  pub wait_is : (c : ℕ) → WaitSays t p c (wait t p c)
  unfolding WaitSays IsFirst
  wait_is c = go (wait t p c) (first_is (λ w. leb c (least w)) 0 (suc (P + c * P)))
    where
      go : (o : Found) → IsFirst (λ w. leb c (least w)) 0 (suc (P + c * P)) o → WaitSays t p c o
      go (at w) h = wait_from c w (leb→le c (least w) h.2) (λ v l. nleb→lt c (least v) (h.3 v zero-le l))
      go nobody h =
          let u = nleb→lt c (least (P + c * P)) (h (P + c * P) zero-le (omega arith)) in
          let d = cycle_least_law t formed p in (
            omega arith,
            elim (le_or_lt (cycle_least (system t) p) 0) [
              | inl y ↦ record { leaf = d.leaf; leaf_is_leaf = d.leaf_is_leaf; met = omega (arith, d.met); lower = λ v w. zero-le }
              | inr y ↦ absurd (omega (arith, reaches c y))
            ],
          )

  -- ---- the law of periods

  pub wait_more : (c M : ℕ) → P < M → Wait (grants t) p c M → Wait (grants t) p (c + cycle_least (system t) p) (M + P)
  wait_more c M l x = wait_from (c + cycle_least (system t) p) (M + P)
      (omega (arith, wait_reached c M x, least_period (system t) (sound t formed) p M (omega arith)))
      (λ w h.
      omega (
        arith,
        wait_sooner c M (M - 1) x (omega arith),
        bound_slow t formed p w (M - 1 + P) (omega arith),
        least_period (system t) (sound t formed) p (M - 1) (omega arith),
      ))
