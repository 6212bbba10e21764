-- Demand from the next deadlines on: a deadline that is reached brings its work once, and the next one is a gap later. Before all of
-- them nothing is demanded, and never more than the window has ticks. Assumes nothing.
use mathlib.Core.Path.{◌≡◌, ap, ◌∙◌}
use mathlib.Core.List.{List}
use mathlib.Core.Logic.{inl, inr}
use Prim.Native.Nat.{ℕ, ◌+◌, ◌-◌, ◌*◌, ◌/◌, ◌≤◌, ◌<◌}
use native.Mathlib.Nat.{zero-add, div-eq_of_lt, add-div_right, mul-le-mul_left, div-add-mod'}
use native.Mathlib.Omega.{arith}
use lib.Dec.{ltb}
use lib.ListN.{length, set}
use lib.Seq.{get_or-set_same, get_or-set_other}
use lib.Arith.{le→nltb}
use Rattle.laws.proofs.Test.{le_or_lt, pick_no}
use Rattle.laws.proofs.Sum.{sum_zero, sum_change}
use Rattle.theory.specs.Task.{Task, LawfulTask, demand_of}
use Rattle.theory.proofs.Demand.{demand_of_none}
use Rattle.demand.specs.declared.series.Series.{Series}
use Rattle.demand.specs.Ahead.{waiting, waiting_for, no_series, series_at, ahead}

-- ---- one task

-- from the deadline on
demand_of_since : (k : Task) (w : ℕ) → k.deadline ≤ w → demand_of k w ≡ k.work * ((w - k.deadline) / k.gap + 1)
demand_of_since k w l = pick_no (ltb w k.deadline) _ _ (le→nltb w k.deadline l)

-- a window's demand is no more than its ticks, since the work fits its deadline and its gap
pub demand_of_le : (k : Task) → LawfulTask k → (w : ℕ) → demand_of k w ≤ w
demand_of_le k lawful w = elim (le_or_lt k.deadline w) [
  | inl l ↦
      let n = (w - k.deadline) / k.gap in
      omega (arith, demand_of_since k w l, mul-le-mul_left {m = k.work} {n = k.gap} n (omega arith), div-add-mod' (w - k.deadline) k.gap)
  | inr l ↦ omega (arith, demand_of_none k w l)
]

-- the first deadline brings its work, the others are those from a gap later on
pub first_due : (d gap work : ℕ) → 1 ≤ gap → (w : ℕ) → d ≤ w → demand_of (waiting d gap work) w ≡ work + demand_of (waiting (d + gap) gap work) w
first_due d gap work some w l = elim (le_or_lt (d + gap) w) [
  | inl h ↦
      let e : w - d ≡ w - (d + gap) + gap = omega arith in
      let more : (w - d) / gap ≡ (w - (d + gap)) / gap + 1 = ap (λ x. x / gap) e ∙ (add-div_right (w - (d + gap)) some ∙ omega arith) in
      omega (arith, demand_of_since (waiting d gap work) w l, demand_of_since (waiting (d + gap) gap work) w h, ap (λ x. work * (x + 1)) more)
  | inr h ↦ omega (
    arith,
    demand_of_since (waiting d gap work) w l,
    demand_of_none (waiting (d + gap) gap work) w h,
    ap (λ x. work * (x + 1)) {x = (w - d) / gap} {y = 0} (div-eq_of_lt (omega arith)),
  )
]

-- ---- all tasks

module _ (series : List Series) (n w : ℕ) where
  -- series i's demand
  abbrev brings : List Series → ℕ → ℕ
  brings all i = demand_of (waiting_for (series_at all i)) w

  pub ahead_none : ((i : ℕ) → i < n → w < (series_at series i).next) → ahead series n w ≡ 0
  ahead_none h = sum_zero (brings series) 0 n (λ i l. rw (zero-add i) (demand_of_none (waiting_for (series_at series i)) w (h i l)))

  -- one series moves
  pub ahead_set : (i : ℕ) (s : Series) → i < n → i < length series
      → ahead (set series i s) n w + demand_of (waiting_for (series_at series i)) w ≡ ahead series n w + demand_of (waiting_for s) w
  ahead_set i s l m =
      rw (zero-add i, get_or-set_same series i s no_series m) at
      (sum_change (brings (set series i s)) (brings series) 0 n i l
      (λ j k o. rw (zero-add j) (ap (λ x. demand_of (waiting_for x) w) (get_or-set_other series i j s no_series o))))
