-- Where the grants of every window cover its demand, earliest deadline first is never late: releases bring no more work than the demand, a granted tick takes work that is due by a tick
-- as long as there is any, so none of it remains at that tick. Assumes nothing.
use mathlib.Core.Path.{◌≡◌, subst}
use mathlib.Core.Bool.{Bool, not}
use mathlib.Core.Logic.{◌⊎◌, inl, inr}
use Prim.Native.Nat.{ℕ, suc, ◌+◌, ◌-◌, ◌≤◌, ◌<◌}
use native.Mathlib.Nat.{le_refl}
use native.Mathlib.Omega.{arith}
use lib.Dec.{T, T_not, not_T, eqb→eq, leb, le→leb, ltb, lt→ltb, ltb→lt, eqb}
use lib.Arith.{lt→nleb}
use Rattle.laws.specs.Test.{bit}
use Rattle.laws.specs.Found.{Found, nobody, at, IsBest}
use Rattle.laws.proofs.Test.{either, le_or_lt, and_left, and_right, and_both, pick_yes, pick_no, pick_same, pick_le, bit_yes, bit_no}
use Rattle.laws.proofs.Best.{best_is}
use Rattle.theory.specs.Grants.{Stream, count, is}
use Rattle.theory.specs.Task.{LawfulTask, Tasks, belongs, Each, demand}
use Rattle.theory.specs.Job.{Job, age, is_late}
use Rattle.theory.specs.Steps.{released, waits, earliest, edf, jobs, after, Accepted, late}
use Rattle.theory.proofs.Demand.{over_zero, over_term}
use Rattle.theory.proofs.Backlog.{no_backlog}
use Rattle.theory.proofs.Gaps.{arrivals, arrivals_le}
use Rattle.theory.proofs.Jobs.{due, pend, takes, release_pend, serve_pend, age_pend, late_is_due}
use Rattle.theory.proofs.Lawful.{release_finds_done}

-- ---- the runner's choice

module _ (ts : Tasks) (q x : ℕ) (js : ℕ → Job) where
  nothing_due : ((i : ℕ) → i < ts.number → T (waits ts q js i) → x < (js i).left) → pend ts q x js ≡ 0
  nothing_due h = over_zero ts q (λ i. due x (js i)) (λ i l y. elim (le_or_lt (js i).remaining 0) [
    | inl z ↦ omega (arith, pick_le (leb (js i).left x) (js i).remaining)
    | inr z ↦ pick_no (leb (js i).left x) _ 0 (lt→nleb (js i).left x (h i l (and_both (belongs ts q i) (ltb 0 (js i).remaining) y (lt→ltb 0 (js i).remaining z))))
  ])

  best_takes : (o : Found) → IsBest (waits ts q js) (λ i. (js i).left) ts.number o → (pend ts q x js ≡ 0) ⊎ T (takes ts q x js o)
  unfolding IsBest
  best_takes nobody h = inl (nothing_due (λ i l t. absurd (T_not (waits ts q js i) (h i l) t)))
  best_takes (at j) h = elim (le_or_lt (js j).left x) [
    | inl f ↦
        let y = and_left (belongs ts q j) (ltb 0 (js j).remaining) h.1 in
        let w = ltb→lt 0 (js j).remaining (and_right (belongs ts q j) (ltb 0 (js j).remaining) h.1) in
        let e = pick_yes (leb (js j).left x) (js j).remaining 0 (le→leb (js j).left x f) in
        inr (and_both (ltb j ts.number) _ (lt→ltb j ts.number h.0) (and_both (belongs ts q j) (ltb 0 (due x (js j))) y (lt→ltb 0 (due x (js j)) (omega arith))))
    | inr f ↦ inl (nothing_due (λ i l t. elim (h.2 i l t) [ inl a ↦ omega arith | inr a ↦ omega arith ]))
  ]

  -- a tick of queue q takes work that is due, where there is any
  earliest_takes : (g : ℕ) → (pend ts q x js ≡ 0) ⊎ (bit (is q g) ≤ bit (takes ts q x js (earliest ts g js)))
  earliest_takes g = elim (either (is q g)) [
    | inl y ↦
        let b = subst (λ z. IsBest (waits ts z js) (λ i. (js i).left) ts.number (earliest ts g js)) (eqb→eq g q y) (best_is (waits ts g js) (λ i. (js i).left) ts.number) in
        elim (best_takes (earliest ts g js) b) [ inl z ↦ inl z | inr t ↦ inr (omega (arith, bit_yes (is q g) y, bit_yes (takes ts q x js (earliest ts g js)) t)) ]
    | inr n ↦ inr (omega (arith, bit_no (is q g) n))
  ]

-- ---- the deadlines of one tick

module _ (ts : Tasks) (q : ℕ) (r : ℕ → ℕ → Bool) (g : Stream) (lawful : Each ts q (λ i. LawfulTask (ts.task i))) (accepted : Accepted ts r (edf ts g))
    (covers : (s a : ℕ) → demand ts q a ≤ count (is q) g s a) where
  -- the work due by d, before tick n and once it is served
  abbrev before : ℕ → ℕ → ℕ
  before d n = pend ts q (d - n) (jobs ts r (edf ts g) n)

  abbrev remains : ℕ → ℕ → ℕ
  remains d n = pend ts q (d - n) (after ts r (edf ts g) n)

  start : (d : ℕ) → before d 0 ≡ 0
  unfolding jobs
  start d = over_zero ts q (λ i. due (d - 0) (jobs ts r (edf ts g) 0 i)) (λ i l y. pick_same (leb 0 (d - 0)) 0)

  one_tick : (d n : ℕ) → n < d → (remains d n ≡ 0) ⊎ (remains d n + bit (is q (g n)) ≤ before d n + arrivals ts q r d n)
  one_tick d n l =
      let js = jobs ts r (edf ts g) n in
      let rs = released ts (r n) js in
      let rule1 = release_pend ts q (d - n) n d r js (omega arith) (λ i m y. release_finds_done ts r (edf ts g) accepted n i (lawful i m y)) in
      let rule2 = serve_pend ts q (d - n) rs (earliest ts (g n) rs) in
      elim (earliest_takes ts q (d - n) rs (g n)) [ inl z ↦ inl (omega (arith, rule2)) | inr z ↦ inr (omega (arith, rule1, rule2)) ]

  keep : (d n : ℕ) → n < d → before d (suc n) ≤ remains d n
  unfolding jobs
  keep d n l = let e : suc (d - suc n) ≡ d - n = omega arith in omega (arith, rw e at (age_pend ts q (d - suc n) (after ts r (edf ts g) n)))

  -- once tick n is served, none of the queue's work is due within one tick
  none_left : (n : ℕ) → pend ts q 1 (after ts r (edf ts g) n) ≡ 0
  none_left n =
      let e : suc n - n ≡ 1 = omega arith in
      rw e at (no_backlog (suc n) (before (suc n)) (remains (suc n)) (arrivals ts q r (suc n)) (λ k. bit (is q (g k))) (start (suc n)) (one_tick (suc n)) (keep (suc n)) n (le_refl (suc n))
      (λ s a f. omega (arith, arrivals_le ts q r (edf ts g) lawful accepted (suc n) s a f, covers s a)))

  pub never_late : (n i : ℕ) → i < ts.number → T (belongs ts q i) → T (not (late ts r (edf ts g) n i))
  never_late n i l y = not_T (is_late (age (ts.task i) j)) (λ t. absurd (omega (
    arith,
    ltb→lt 0 j.remaining (and_left (ltb 0 j.remaining) (eqb (age (ts.task i) j).left 0) t),
    pick_yes (is_late (age (ts.task i) j)) j.remaining 0 t,
    late_is_due (ts.task i) j,
    over_term ts q (λ i. due 1 (after ts r (edf ts g) n i)) i l y,
    none_left n,
  )))
    where
      j : Job
      j = after ts r (edf ts g) n i
