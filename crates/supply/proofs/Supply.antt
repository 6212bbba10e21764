-- What is known of a queue's supply decides every window: below 2P the filling has the least, and past 2P the law of the period.
-- All of its numbers are small. Assumes nothing.
use mathlib.Core.Path.{◌≡◌, sym, ap, subst, ◌∙◌}
use mathlib.Core.Bool.{Bool}
use mathlib.Core.List.{List}
use mathlib.Core.Logic.{inl, inr}
use Prim.Native.Nat.{ℕ, ◌+◌, ◌-◌, ◌*◌, ◌/◌, ◌%◌, ◌≤◌, ◌<◌}
use native.Mathlib.Nat.{mod-lt}
use native.Mathlib.Omega.{arith}
use lib.Dec.{ltb, lt→ltb}
use lib.Arith.{le→nltb}
use Rattle.laws.specs.Test.{any}
use Rattle.laws.proofs.Test.{le_or_lt, pick_yes, pick_no}
use Rattle.laws.proofs.Minimum.{minimum_default}
use Rattle.theory.specs.Grants.{count, is}
use Rattle.theory.specs.Bounds.{Least}
use Rattle.theory.specs.Tree.{Tree, is_leaf, Formed, grants, CycleLeast}
use Rattle.theory.specs.Cycles.{cycle_least, from, least_of, system}
use Rattle.theory.proofs.Bounds.{least_unique, least_grows}
use Rattle.theory.proofs.Paths.{some_tick}
use Rattle.theory.proofs.Cycles.{least_far}
use Rattle.theory.proofs.Runs.{sound, tree_least}
use Rattle.theory.proofs.Period.{cycle_least_law, cycle_least_unique}
use Rattle.table.specs.declared.Table.{Table}
use Rattle.table.specs.Table.{tree_of}
use Rattle.table.specs.Rules.{WellFormed}
use Rattle.table.specs.Columns.{entry}
use Rattle.table.proofs.Known.{well_formed}
use Rattle.supply.specs.declared.queues.Supply.{Supply}
use Rattle.supply.specs.Supply.{Supplied, supply_at}

-- ---- any tree, any test

module _ (t : Tree) (formed : Formed t) (p : ℕ → Bool) where
  pub least_small : (w : ℕ) → least_of (system t) p w ≤ w
  least_small w = minimum_default any (λ s. from (system t) p s w) w t.period

  pub cycle_small : cycle_least (system t) p ≤ t.period
  cycle_small = minimum_default (is_leaf t) (λ v. count p ((system t).queue v) 0 t.period) t.period t.size

  module _ (filled : List ℕ) (cycle : ℕ) (each : (w : ℕ) → w < 2 * t.period → entry filled w ≡ least_of (system t) p w) (known : cycle ≡ cycle_least (system t) p) where
    pub supply_least : (w : ℕ) → supply_at filled t.period cycle w ≡ least_of (system t) p w
    supply_least w = elim (le_or_lt (2 * t.period) w) [
      | inr l ↦ pick_yes (ltb w (2 * t.period)) _ _ (lt→ltb w (2 * t.period) l) ∙ each w l
      | inl l ↦
          let P = t.period in
          let r = mod-lt (w - P) (some_tick t formed) in
          pick_no (ltb w (2 * P)) _ _ (le→nltb w (2 * P) l)
          ∙ omega (
            arith,
            each (P + (w - P) % P) (omega arith),
            ap (λ c. (w - P) / P * c) known,
            least_far (system t) (sound t formed) p w (omega arith),
          )
    ]

-- ---- a queue of a table

-- the least of a window, as the theory computes it
abbrev pub least : Table → ℕ → ℕ → ℕ
least t q w = least_of (system (tree_of t)) (is q) w

module _ (t : Table) (formed : WellFormed t) (q : ℕ) where
  pub least_is : (w : ℕ) → Least (grants (tree_of t)) (is q) w (least t q w)
  least_is w = tree_least (tree_of t) formed.formed (is q) w

  pub least_said : (w m : ℕ) → Least (grants (tree_of t)) (is q) w m → m ≡ least t q w
  least_said w m l = least_unique (grants (tree_of t)) l (least_is w)

  -- least never falls
  pub least_rises : (v w : ℕ) → v ≤ w → least t q v ≤ least t q w
  least_rises v w h =
      let e : v + (w - v) ≡ w = omega arith in
      rw e at (least_grows (grants (tree_of t)) v (w - v) (least_is v) (least_is (v + (w - v)))).0

  module _ (filled : List ℕ) (cycle : ℕ) (known : Supplied t q filled cycle) where
    pub cycle_is : cycle ≡ cycle_least (system (tree_of t)) (is q)
    cycle_is = cycle_least_unique (tree_of t) (is q) cycle (cycle_least (system (tree_of t)) (is q)) known.cycle_least_law (cycle_least_law (tree_of t) formed.formed (is q))

    pub cycle_le : cycle ≤ t.period
    cycle_le = omega (arith, cycle_is, cycle_small (tree_of t) formed.formed (is q))

    pub entry_is : (w : ℕ) → w < 2 * t.period → entry filled w ≡ least t q w
    entry_is w l = least_said w (entry filled w) (known.least w l)

    pub entry_small : (w : ℕ) → w < 2 * t.period → entry filled w ≤ 2048
    entry_small w l = omega (arith, entry_is w l, least_small (tree_of t) formed.formed (is q) w, formed.period)

    pub supply_is : (w : ℕ) → supply_at filled t.period cycle w ≡ least t q w
    supply_is = supply_least (tree_of t) formed.formed (is q) filled cycle entry_is cycle_is

-- ---- a queue's supply

module _ (s : Supply) where
  abbrev t : Table
  t = s.table.now.table.now

  abbrev formed : WellFormed t
  formed = well_formed s.table.now

  -- in the rules' words
  pub supplied : Supplied t s.queue s.filled.now s.cycle
  supplied = record {
    least = λ w l. rw (s.each_least w l) (least_is t formed s.queue w);
    cycle_least_law = subst (CycleLeast (tree_of t) (is s.queue)) (sym s.least_of_cycle) (cycle_least_law (tree_of t) formed.formed (is s.queue));
  }
