-- The wait from a filling: up to 2P the first entry that reaches the ticks, and from one period on a period more for each cycle least
-- more. Assumes nothing.
use mathlib.Core.Path.{◌≡◌, sym, ap, subst₂}
use mathlib.Core.List.{List}
use mathlib.Core.Logic.{◌⊎◌, inl, inr}
use Prim.Native.Nat.{ℕ, zero, suc, ◌+◌, ◌*◌, ◌≤◌, ◌<◌}
use native.Mathlib.Nat.{le_refl}
use native.Mathlib.Omega.{arith}
use lib.ListN.{length, take}
use Rattle.std.proofs.lemmas.List.{length-take-le, get_or-take}
use Rattle.laws.proofs.Test.{le_or_lt}
use Rattle.theory.specs.Grants.{is}
use Rattle.theory.specs.Tree.{grants}
use Rattle.theory.specs.Verdict.{Wait}
use Rattle.theory.specs.Cycles.{cycle_least, system}
use Rattle.theory.proofs.Cycles.{least_period}
use Rattle.theory.proofs.Runs.{sound}
use Rattle.theory.proofs.Wait.{wait_more}
use Rattle.table.specs.declared.Table.{Table}
use Rattle.table.specs.Table.{tree_of}
use Rattle.table.specs.Rules.{WellFormed}
use Rattle.supply.specs.Supply.{Supplied}
use Rattle.supply.proofs.Supply.{least, least_is, least_said, least_rises, cycle_is, entry_is}
use Rattle.waits.specs.Reaches.{Reaches}

-- the wait of a queue of the table
abbrev pub WaitOf : Table → ℕ → ℕ → ℕ → Type 0
WaitOf t q c w = Wait (grants (tree_of t)) (is q) c w

-- windows of a part are windows of the whole
pub reaches_whole : (filled : List ℕ) (e c r : ℕ) → e ≤ length filled → Reaches (take e filled) (length (take e filled)) c r → Reaches filled e c r
reaches_whole filled e c r room found =
    let long = length-take-le e filled room in record {
      within = omega (arith, found.within);
      before = λ w l. rw (get_or-take e filled w 0 (omega (arith, found.within))) at (found.before w l);
      reached = λ l. rw (get_or-take e filled r 0 l) at (found.reached (omega arith));
    }

module _ (t : Table) (formed : WellFormed t) (q : ℕ) (filled : List ℕ) (cycle : ℕ) (known : Supplied t q filled cycle) where
  abbrev P : ℕ
  P = t.period

  two_periods : least t q (2 * P) ≡ least t q P + cycle
  two_periods =
      omega (
        arith,
        ap (least t q) {x = 2 * P} {y = P + P} (omega arith),
        least_period (system (tree_of t)) (sound (tree_of t) formed.formed) (is q) P (le_refl P),
        cycle_is t formed q filled cycle known,
      )

  module _ (c r : ℕ) (found : Reaches filled (2 * P) c r) (most : c ≤ least t q P + cycle) where
    wait_near : WaitOf t q c r
    wait_near = record {
      supply = least t q r;
      supplies = least_is t formed q r;
      reached = elim (le_or_lt (2 * P) r) [
        | inl h ↦ omega (arith, two_periods, ap (least t q) {x = r} {y = 2 * P} (omega (arith, found.within)))
        | inr h ↦ omega (arith, found.reached h, entry_is t formed q filled cycle known r h)
      ];
      shortest = λ w m l x. omega (arith, found.before w l, least_said t formed q w m x, entry_is t formed q filled cycle known w (omega (arith, found.within)));
    }

    -- more than one period has
    after_period : least t q P < c → P < r
    after_period h = elim (le_or_lt r P) [
      | inl l ↦ absurd (omega (
        arith,
        formed.period,
        found.reached (omega (arith, formed.period)),
        entry_is t formed q filled cycle known r (omega (arith, formed.period)),
        least_rises t formed q r P l,
      ))
      | inr l ↦ l
    ]

    wait_far : least t q P < c → (k : ℕ) → WaitOf t q (c + k * cycle) (r + k * P)
    wait_far h zero =
        let e : c + 0 * cycle ≡ c = omega arith in
        let f : r + 0 * P ≡ r = omega arith in
        subst₂ (WaitOf t q) (sym e) (sym f) wait_near
    wait_far h (suc k) =
        let e : c + suc k * cycle ≡ c + k * cycle + cycle_least (system (tree_of t)) (is q) = omega (arith, cycle_is t formed q filled cycle known) in
        let f : r + suc k * P ≡ r + k * P + P = omega arith in
        subst₂ (WaitOf t q) (sym e) (sym f) (wait_more (tree_of t) formed.formed (is q) (c + k * cycle) (r + k * P) (omega (arith, after_period h)) (wait_far h k))

    -- with k cycles more, if none or if more was asked than one period has
    pub wait_left : (k : ℕ) → (k ≡ 0) ⊎ (least t q P < c) → WaitOf t q (c + k * cycle) (r + k * P)
    wait_left k (inl z) =
        let e : c + k * cycle ≡ c = rw z (omega arith) in
        let f : r + k * P ≡ r = rw z (omega arith) in
        subst₂ (WaitOf t q) (sym e) (sym f) wait_near
    wait_left k (inr h) = wait_far h k
