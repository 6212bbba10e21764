-- Where the grants of some window are fewer than its demand, a job is late, whoever is served: released at every chance from the window's start on, the tasks bring all of the demand, a
-- grant takes at most one, and what is not taken is dropped as late. Assumes nothing.
use mathlib.Core.Path.{◌≡◌, refl, sym, ap, ◌∙◌, subst}
use mathlib.Core.Bool.{Bool, ◌&&◌}
use mathlib.Core.Logic.{inl, inr}
use Prim.Native.Nat.{ℕ, zero, suc, ◌+◌, ◌-◌, ◌≤◌, ◌<◌, min}
use native.Mathlib.Nat.{le_refl}
use native.Mathlib.Omega.{arith}
use lib.Dec.{T, eqb→eq, leb, leb→le, le→leb, ltb, ltb→lt, lt→ltb}
use lib.Arith.{lt→nleb}
use Rattle.laws.specs.Test.{pick, bit}
use Rattle.laws.specs.Sum.{sum}
use Rattle.laws.specs.Found.{Found, nobody, at, IsBest}
use Rattle.laws.proofs.Test.{either, eqb_of, and_left, and_right, and_both, and_fails_left, pick_no, pick_some, bit_yes, bit_no, bit_le}
use Rattle.laws.proofs.Sum.{sum_le, sum_add, sum_some}
use Rattle.laws.proofs.Best.{best_is}
use Rattle.theory.specs.Grants.{Stream, count, is}
use Rattle.theory.specs.Task.{LawfulTask, Tasks, belongs, Each, demand}
use Rattle.theory.specs.Job.{Job, age, is_late}
use Rattle.theory.specs.Steps.{Service, Respects, released, waits, edf, jobs, after, Accepted, SomeLate}
use Rattle.theory.proofs.Demand.{over_zero, over_some}
use Rattle.theory.proofs.Backlog.{balance}
use Rattle.theory.proofs.Gaps.{arrivals, arrivals_tight}
use Rattle.theory.proofs.Jobs.{due, pend, takes, release_pend, serve_pend, age_pend, late_is_due}
use Rattle.theory.proofs.Lawful.{jobs_lawful, none_due, release_finds_done}

-- earliest deadline first serves only the queue that the tick is granted to
pub edf_respects : (ts : Tasks) (g : Stream) → Respects ts g (edf ts g)
unfolding IsBest
edf_respects ts g n js j e =
    let b = subst (IsBest (waits ts (g n) js) (λ i. (js i).left) ts.number) e (best_is (waits ts (g n) js) (λ i. (js i).left) ts.number) in
    (b.0, and_left (belongs ts (g n) j) (ltb 0 (js j).remaining) b.1)

-- ---- releases at every chance from tick s on

-- tick n may release task i, with x ticks since its last release
abbrev pub chance : Tasks → ℕ → ℕ → ℕ → ℕ → Bool
chance ts s n i x = leb s n && (ltb i ts.number && leb (ts.task i).gap x)

-- task i's since before tick n
unfoldable pub since_before : Tasks → ℕ → ℕ → ℕ → ℕ
since_before ts s i zero = (ts.task i).gap
since_before ts s i (suc n) = min (ts.task i).gap (pick (chance ts s n i (since_before ts s i n)) 0 (since_before ts s i n) + 1)

abbrev pub greedy : Tasks → ℕ → ℕ → ℕ → Bool
greedy ts s n i = chance ts s n i (since_before ts s i n)

module _ (ts : Tasks) (s : ℕ) (o : Service) where
  since_is : (n i : ℕ) → (jobs ts (greedy ts s) o n i).since ≡ since_before ts s i n
  unfolding jobs since_before
  since_is zero i = refl
  since_is (suc n) i = ap (λ x. min (ts.task i).gap (pick (greedy ts s n i) 0 x + 1)) (since_is n i)

  pub greedy_accepted : Accepted ts (greedy ts s) o
  greedy_accepted n i t =
      let G = (ts.task i).gap in
      let x = since_before ts s i n in
      let u = and_right (leb s n) (ltb i ts.number && leb G x) t in
      (ltb→lt i ts.number (and_left (ltb i ts.number) (leb G x) u), rw (since_is n i) (leb→le G x (and_right (ltb i ts.number) (leb G x) u)))

  -- before tick s there is no release
  greedy_ready : (n i : ℕ) → n ≤ s → (jobs ts (greedy ts s) o n i).since ≡ (ts.task i).gap
  unfolding jobs
  greedy_ready zero i l = refl
  greedy_ready (suc n) i l = omega (arith, greedy_ready n i (omega arith), pick_no (greedy ts s n i) 0 (jobs ts (greedy ts s) o n i).since (and_fails_left (leb s n) _ (lt→nleb s n l)))

  greedy_each : (n i : ℕ) → s ≤ n → i < ts.number → (ts.task i).gap ≤ (jobs ts (greedy ts s) o n i).since → T (greedy ts s n i)
  greedy_each n i l m h =
      let G = (ts.task i).gap in
      let x = since_before ts s i n in
      and_both (leb s n) (ltb i ts.number && leb G x) (le→leb s n l) (and_both (ltb i ts.number) (leb G x) (lt→ltb i ts.number m) (le→leb G x (rw (since_is n i) at h)))

-- ---- one window

-- a tick takes work of queue q only where it is granted to q
takes_granted : (ts : Tasks) (q x g : ℕ) (js : ℕ → Job) (o : Found) → ((j : ℕ) → o ≡ at j → (j < ts.number) × T (belongs ts g j)) → bit (takes ts q x js o) ≤ bit (is q g)
takes_granted ts q x g js nobody f = omega arith
takes_granted ts q x g js (at j) f = elim (either (takes ts q x js (at j))) [
  | inl t ↦
      let y = and_left (belongs ts q j) (ltb 0 (due x (js j))) (and_right (ltb j ts.number) _ t) in
      let e = eqb_of g q (sym (eqb→eq (ts.task j).queue g (f j refl).1) ∙ eqb→eq (ts.task j).queue q y) in
      omega (arith, bit_le (takes ts q x js (at j)), bit_yes (is q g) e)
  | inr n ↦ omega (arith, bit_no (takes ts q x js (at j)) n)
]

module _ (ts : Tasks) (q : ℕ) (g : Stream) (o : Service) (lawful : Each ts q (λ i. LawfulTask (ts.task i))) (respects : Respects ts g o) (s t : ℕ) where
  -- the jobs before tick n, after its releases, and once it is served
  abbrev js : ℕ → ℕ → Job
  js n = jobs ts (greedy ts s) o n

  abbrev rs : ℕ → ℕ → Job
  rs n = released ts (greedy ts s n) (js n)

  abbrev served : ℕ → ℕ → Job
  served n = after ts (greedy ts s) o n

  -- the work that is due by the window's end, what tick n takes of it, and what is late
  abbrev before : ℕ → ℕ
  before n = pend ts q (s + t - n) (js n)

  abbrev taken : ℕ → ℕ
  taken n = bit (takes ts q (s + t - n) (rs n) (o n (rs n)))

  abbrev lost : ℕ → ℕ
  lost n = pend ts q 1 (served n)

  one_tick : (n : ℕ) → n < s + t → before (suc n) + (lost n + taken n) ≡ before n + arrivals ts q (greedy ts s) (s + t) n
  unfolding jobs
  one_tick n l =
      let e : suc (s + t - suc n) ≡ s + t - n = omega arith in
      omega (
        arith,
        release_pend ts q (s + t - n) n (s + t) (greedy ts s) (js n) (omega arith) (λ i m y. release_finds_done ts (greedy ts s) o (greedy_accepted ts s o) n i (lawful i m y)),
        serve_pend ts q (s + t - n) (rs n) (o n (rs n)),
        rw e at (age_pend ts q (s + t - suc n) (served n)),
      )

  -- no work that is due by the window's end is left there
  settled : before (s + t) ≡ 0
  settled =
      let e : s + t - (s + t) ≡ 0 = omega arith in
      ap (λ x. pend ts q x (js (s + t))) e
      ∙ over_zero ts q (λ i. due 0 (js (s + t) i)) (λ i l y. none_due (ts.task i) (js (s + t) i) (jobs_lawful ts (greedy ts s) o (s + t) i (lawful i l y)))

  some_lost : count (is q) g s t < demand ts q t → 0 < sum lost s t
  some_lost h =
      omega (
        arith,
        balance before (arrivals ts q (greedy ts s) (s + t)) (λ n. lost n + taken n) s t (λ i l. one_tick (s + i) (omega arith)),
        settled,
        arrivals_tight ts q (greedy ts s) o lawful (greedy_accepted ts s o) (s + t) s t refl (λ i l y. greedy_ready ts s o s i (le_refl s)) (λ i l y n m. greedy_each ts s o n i m l),
        sum_add lost taken s t,
        sum_le taken (λ n. bit (is q (g n))) s s t (λ i l. takes_granted ts q (s + t - (s + i)) (g (s + i)) (rs (s + i)) (o (s + i) (rs (s + i))) (respects (s + i) (rs (s + i)))),
      )

  pub some_late : count (is q) g s t < demand ts q t → SomeLate ts q (greedy ts s) o (s + t)
  some_late h =
      let (k, l, p) = sum_some lost s t (some_lost h) in
      let (i, m, y, z) = over_some ts q (λ i. due 1 (served (s + k) i)) p in
      let j = served (s + k) i in
      (s + k, i, omega arith, m, y, (pick_some (is_late (age (ts.task i) j)) j.remaining (rw (late_is_due (ts.task i) j) at z)).0)
