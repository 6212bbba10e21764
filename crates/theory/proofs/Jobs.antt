-- How a queue's work that is due within x ticks changes with each step rule: a release adds its work, a service takes one, and a tick on the rest is due one tick sooner but what is late
-- is dropped. Each law is an equation, task by task. Assumes nothing.
use mathlib.Core.Path.{◌≡◌, refl, sym, ap, ◌∙◌}
use mathlib.Core.Bool.{Bool, true, false, not, ◌&&◌}
use mathlib.Core.Logic.{inl, inr}
use Prim.Native.Nat.{ℕ, suc, ◌+◌, ◌-◌, ◌*◌, ◌≤◌, ◌<◌}
use native.Mathlib.Omega.{arith}
use lib.Dec.{T, not_T, eqb, eqb→eq, eqb_refl, leb, le→leb, ltb, lt→ltb}
use lib.Arith.{lt→nleb, le→nltb}
use Rattle.laws.specs.Test.{pick, bit}
use Rattle.laws.specs.Found.{Found, nobody, at}
use Rattle.laws.proofs.Test.{le_or_lt, eqb_of, neqb_of, and_right, and_both, and_fails_left, pick_yes, pick_no, pick_le, bit_yes, bit_no}
use Rattle.theory.specs.Task.{Task, Tasks, belongs, Each, over}
use Rattle.theory.specs.Job.{Job, release, serve, age, is_late, drop}
use Rattle.theory.specs.Steps.{names, released}
use Rattle.theory.proofs.Demand.{over_same, over_add, over_change}
use Rattle.theory.proofs.Gaps.{brings, arrivals}

-- a job's work, if it is due within x ticks
abbrev pub due : ℕ → Job → ℕ
due x j = pick (leb j.left x) j.remaining 0

-- queue q's work that is due within x ticks
abbrev pub pend : Tasks → ℕ → ℕ → (ℕ → Job) → ℕ
pend ts q x js = over ts q (λ i. due x (js i))

in_time : (l x w : ℕ) → l ≤ x → pick (leb l x) w 0 ≡ w
in_time l x w h = pick_yes (leb l x) w 0 (le→leb l x h)

too_far : (l x w : ℕ) → x < l → pick (leb l x) w 0 ≡ 0
too_far l x w h = pick_no (leb l x) w 0 (lt→nleb l x h)

-- ---- rule 1: releases

release_due : (k : Task) (x n d : ℕ) (b : Bool) (j : Job) → n + x ≡ d → (T b → j.remaining ≡ 0) → due x (release k b j) ≡ due x j + brings k (λ m. b) d n
release_due k x n d false j e z = omega (arith, pick_le (leb (n + k.deadline) d) (k.work * 0))
release_due k x n d true j e z =
    let none = pick_le (leb j.left x) j.remaining in
    elim (le_or_lt k.deadline x) [
      | inl h ↦ rw (in_time k.deadline x k.work h, in_time (n + k.deadline) d (k.work * 1) (omega arith)) (omega (arith, none, z tt))
      | inr h ↦ rw (too_far k.deadline x k.work h, too_far (n + k.deadline) d (k.work * 1) (omega arith)) (omega (arith, none, z tt))
    ]

-- a release adds its work, where none of the job before it remains
pub release_pend : (ts : Tasks) (q x n d : ℕ) (r : ℕ → ℕ → Bool) (js : ℕ → Job) → n + x ≡ d → Each ts q (λ i. T (r n i) → (js i).remaining ≡ 0)
    → pend ts q x (released ts (r n) js) ≡ pend ts q x js + arrivals ts q r d n
release_pend ts q x n d r js e z =
    over_same ts q (λ i. due x (released ts (r n) js i)) (λ i. due x (js i) + brings (ts.task i) (λ m. r m i) d n)
    (λ i l y. release_due (ts.task i) x n d (r n i) (js i) e (z i l y))
    ∙ over_add ts q (λ i. due x (js i)) (λ i. brings (ts.task i) (λ m. r m i) d n)

-- ---- rule 2: service

-- the task that was found is one of queue q's, with work that is due within x ticks
abbrev pub takes : Tasks → ℕ → ℕ → (ℕ → Job) → Found → Bool
takes ts q x js nobody = false
takes ts q x js (at j) = ltb j ts.number && (belongs ts q j && ltb 0 (due x (js j)))

-- a service takes one, or nothing
pub serve_pend : (ts : Tasks) (q x : ℕ) (js : ℕ → Job) (o : Found) → pend ts q x (λ i. serve (names o i) (js i)) + bit (takes ts q x js o) ≡ pend ts q x js
serve_pend ts q x js nobody = omega (arith, over_same ts q (λ i. due x (serve false (js i))) (λ i. due x (js i)) (λ i l y. ap (λ w. pick (leb (js i).left x) w 0) (omega arith)))
serve_pend ts q x js (at j) = elim (le_or_lt ts.number j) [
  | inl l ↦
      omega (
        arith,
        over_same ts q (λ i. due x (serve (eqb i j) (js i))) (λ i. due x (js i)) (λ i m y. others i (omega arith)),
        bit_no (takes ts q x js (at j)) (and_fails_left (ltb j ts.number) _ (le→nltb j ts.number l)),
      )
  | inr l ↦
      omega (
        arith,
        over_change ts q (λ i. due x (serve (eqb i j) (js i))) (λ i. due x (js i)) j l others,
        one_less (ltb j ts.number) (belongs ts q j) (leb (js j).left x) (js j).remaining (bit (eqb j j)) (lt→ltb j ts.number l) (bit_yes (eqb j j) (eqb_refl j)),
      )
]
  where
    others : (i : ℕ) → ¬ (i ≡ j) → due x (serve (eqb i j) (js i)) ≡ due x (js i)
    others i d = ap (λ w. pick (leb (js i).left x) w 0) (ap (λ y. (js i).remaining - y) (bit_no (eqb i j) (neqb_of i j d)) ∙ omega arith)

    one_less : (c a b : Bool) (w y : ℕ) → T c → y ≡ 1 → pick a (pick b (w - y) 0) 0 + bit (c && (a && ltb 0 (pick b w 0))) ≡ pick a (pick b w 0) 0
    one_less false a b w y t e = absurd t
    one_less true false b w y t e = refl
    one_less true true false w y t e = refl
    one_less true true true w y t e = elim (le_or_lt w 0) [
      | inl z ↦ omega (arith, bit_no (ltb 0 w) (le→nltb 0 w z))
      | inr z ↦ omega (arith, bit_yes (ltb 0 w) (lt→ltb 0 w z))
    ]

-- ---- rule 3: a tick on, the late dropped

-- what becomes of a job: it is finished, late and dropped, or one tick nearer its deadline
pub data Aged (j new : Job) (late : Bool) : Type 0 where
  finished : j.remaining ≡ 0 → T (not late) → new.remaining ≡ 0 → new.left ≡ 0 → Aged j new late
  dropped : 0 < j.remaining → j.left ≤ 1 → T late → new.remaining ≡ 0 → new.left ≡ 0 → Aged j new late
  nearer : 0 < j.remaining → 1 < j.left → T (not late) → new.remaining ≡ j.remaining → new.left + 1 ≡ j.left → Aged j new late

pub aged : (k : Task) (j : Job) → Aged j (drop (age k j)) (is_late (age k j))
aged k j = elim (le_or_lt w 0) [
  | inl z ↦
      let n = and_fails_left (ltb 0 w) (eqb l 0) (le→nltb 0 w z) in
      finished (omega arith) n (pick_no (is_late (age k j)) 0 w n ∙ omega arith) (pick_yes (eqb w 0) 0 (j.left - 1) (eqb_of w 0 (omega arith)))
  | inr z ↦
      let e = pick_no (eqb w 0) 0 (j.left - 1) (neqb_of w 0 (omega arith)) in
      elim (le_or_lt j.left 1) [
        | inl y ↦
            let t = and_both (ltb 0 w) (eqb l 0) (lt→ltb 0 w z) (eqb_of l 0 (omega arith)) in
            dropped z y t (pick_yes (is_late (age k j)) 0 w t) (omega arith)
        | inr y ↦
            let n = not_T (is_late (age k j)) (λ t. absurd (omega (arith, eqb→eq l 0 (and_right (ltb 0 w) (eqb l 0) t)))) in
            nearer z y n (pick_no (is_late (age k j)) 0 w n) (omega arith)
      ]
]
  where
    w : ℕ
    w = j.remaining

    l : ℕ
    l = (age k j).left

-- what is due within the tick is what is late
pub late_is_due : (k : Task) (j : Job) → due 1 j ≡ pick (is_late (age k j)) j.remaining 0
late_is_due k j = go (drop (age k j)) (is_late (age k j)) (aged k j)
  where
    go : (new : Job) (late : Bool) → Aged j new late → due 1 j ≡ pick late j.remaining 0
    go new late (finished z n a b) = omega (arith, pick_no late j.remaining 0 n, pick_le (leb j.left 1) j.remaining)
    go new late (dropped z y t a b) = omega (arith, pick_yes late j.remaining 0 t, in_time j.left 1 j.remaining y)
    go new late (nearer z y n a b) = omega (arith, pick_no late j.remaining 0 n, too_far j.left 1 j.remaining y)

age_due : (k : Task) (x : ℕ) (j : Job) → due x (drop (age k j)) + due 1 j ≡ due (suc x) j
age_due k x j = go (drop (age k j)) (is_late (age k j)) (aged k j)
  where
    go : (new : Job) (late : Bool) → Aged j new late → due x new + due 1 j ≡ due (suc x) j
    go new late (finished z n a b) = omega (arith, pick_le (leb new.left x) new.remaining, pick_le (leb j.left 1) j.remaining, pick_le (leb j.left (suc x)) j.remaining)
    go new late (dropped z y t a b) = omega (arith, pick_le (leb new.left x) new.remaining, in_time j.left 1 j.remaining y, in_time j.left (suc x) j.remaining (omega arith))
    go new late (nearer z y n a b) = elim (le_or_lt new.left x) [
      | inl h ↦ omega (arith, in_time new.left x new.remaining h, too_far j.left 1 j.remaining y, in_time j.left (suc x) j.remaining (omega arith))
      | inr h ↦ omega (arith, too_far new.left x new.remaining h, too_far j.left 1 j.remaining y, too_far j.left (suc x) j.remaining (omega arith))
    ]

-- one tick on the rest is due one tick sooner, but what is due within the tick is dropped
pub age_pend : (ts : Tasks) (q x : ℕ) (js : ℕ → Job) → pend ts q x (λ i. drop (age (ts.task i) (js i))) + pend ts q 1 js ≡ pend ts q (suc x) js
age_pend ts q x js =
    sym (over_add ts q (λ i. due x (drop (age (ts.task i) (js i)))) (λ i. due 1 (js i)))
    ∙ over_same ts q (λ i. due x (drop (age (ts.task i) (js i))) + due 1 (js i)) (λ i. due (suc x) (js i)) (λ i l y. age_due (ts.task i) x (js i))
