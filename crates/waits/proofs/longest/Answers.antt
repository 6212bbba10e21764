-- `waits::longest` meets its contract: what is left when whole cycles are taken off is reached within two periods, and after one
-- if a cycle was taken off. Assumes nothing.
use Prim.Native.Nat.{◌+◌, ◌-◌, ◌*◌, ◌/◌, ◌≤◌, ◌<◌}
use mathlib.Core.Path.{◌≡◌, sym, ap, subst, ◌∙◌}
use mathlib.Core.Logic.{◌⊎◌, inl, inr}
use native.Mathlib.Nat.{div-add-mod', mod-lt, div-eq_of_lt}
use native.Mathlib.Omega.{arith}
use lib.ListN.{get_or}
use Rattle.laws.proofs.Test.{le_or_lt}
use Rattle.table.proofs.Known.{well_formed}
use Rattle.supply.proofs.Supply.{least, supplied}
use Rattle.waits.specs.Reaches.{Reaches}
use Rattle.waits.proofs.LongestWait.{WaitOf, reaches_whole, wait_left}
use Rattle.waits.proofs.longest.Goals as goal

pub bounds-filled-turn : goal.bounds-filled-turn
bounds-filled-turn c =
    let t = c.args.supply.now.table.now in
    omega (arith, c.from-period.ensures, (well_formed t).period)

pub shared_ref_as_front-reach : goal.shared_ref_as_front-reach
shared_ref_as_front-reach c =
    let t = c.args.supply.now.table.now in
    omega (arith, c.from-period.ensures, (well_formed t).period)

pub returns : goal.returns
returns c =
    let s = c.args.supply.now in
    let t = s.table.now.table.now in
    let formed = well_formed s.table.now in
    let q = s.queue in
    let filled = s.filled.now in
    let ticks = c.args.ticks in
    let period = c.from-period.result in
    let cycles = c.saturating_sub.result / s.cycle in
    let left = ticks - cycles * s.cycle in
    let is_period : period ≡ t.period = c.from-period.ensures in
    -- what one period has
    let one_period : get_or filled period 0 ≡ least t q t.period =
    ap (λ p. get_or filled p 0) is_period ∙ s.each_least t.period (omega (arith, formed.period)) in
    let past : c.saturating_sub.result ≡ ticks - get_or filled period 0 - 1 =
    c.saturating_sub.ensures ∙ ap (λ x. x - 1) c.saturating_sub-past.ensures in
    -- none is taken off, or more is left than one period has; and two periods have it
    let e = div-add-mod' c.saturating_sub.result s.cycle in
    let r = mod-lt c.saturating_sub.result {m = s.cycle} c.requires.in_bounds.0 in
    let taken_off : (cycles * s.cycle ≤ ticks) × (left ≤ least t q t.period + s.cycle) × ((cycles ≡ 0) ⊎ (least t q t.period < left)) =
    elim (le_or_lt ticks (get_or filled period 0)) [
      | inl l ↦
          let none : cycles ≡ 0 = div-eq_of_lt (omega (arith, past)) in
          let n : cycles * s.cycle ≡ 0 = ap (λ k. k * s.cycle) none ∙ omega arith in
          (omega (arith, n), omega (arith, n, one_period), inl none)
      | inr l ↦ (omega (arith, e, past), omega (arith, e, r, past, one_period), inr (omega (arith, e, past, one_period)))
    ] in
    let found : Reaches filled (2 * t.period) left c.reach-near.result =
    subst (λ p. Reaches filled (2 * p) left c.reach-near.result) is_period (reaches_whole filled (2 * period) left c.reach-near.result (omega (arith, formed.period)) c.reach-near.ensures) in
    let whole : ticks ≡ left + cycles * s.cycle = omega (arith, taken_off.0) in
    let w = wait_left t formed q filled s.cycle (supplied s) left c.reach-near.result found taken_off.1 cycles taken_off.2 in
    subst (λ p. WaitOf t q ticks (c.reach-near.result + cycles * p)) (sym is_period) (subst (λ x. WaitOf t q x (c.reach-near.result + cycles * t.period)) (sym whole) w)
