-- The computed least is the least over the streams of a cycle system, and grows by a cycle's least with each period.
-- A window from tick s of a cycle is the cycle's end and then cycles of its own choice: each part takes its own minimum.
-- Assumes nothing.
use mathlib.Core.Path.{◌≡◌, refl, ap, ap₂, ◌∙◌}
use mathlib.Core.Bool.{Bool}
use mathlib.Core.Logic.{inl, inr}
use Prim.Native.Nat.{ℕ, zero, suc, ◌+◌, ◌-◌, ◌*◌, ◌/◌, ◌%◌, ◌≤◌, ◌<◌}
use native.Mathlib.Nat.{add-zero, zero-add, add_assoc, zero-mul, div-eq_of_lt, mod-eq_of_lt, mod-lt, add-div_left, add-mod_left, add-div_right, add-mod_right, div-add-mod'}
use native.Mathlib.Numerals.{add-one}
use native.Mathlib.Omega.{arith}
use lib.Dec.{ltb, lt→ltb}
use lib.Arith.{le→nltb}
use Rattle.laws.specs.Test.{any}
use Rattle.laws.proofs.Test.{le_or_lt, pick_yes, pick_no}
use Rattle.laws.proofs.Minimum.{minimum_le, minimum_at}
use Rattle.theory.specs.Grants.{count}
use Rattle.theory.specs.Bounds.{Least}
use Rattle.theory.specs.Cycles.{System, Word, Choice, stream, cycles, low, cycle_least, tail, from, least_of}
use Rattle.theory.proofs.Grants.{count_split, count_same, count_le}

-- a system has a tick and a word
pub record Sound (S : System) : Type 0 where
  pub tick : 0 < S.period
  pub some_word : ℕ
  pub is_word : Word S some_word

-- one more cycle in front
abbrev pub cons : ℕ → (ℕ → ℕ) → ℕ → ℕ
cons v c zero = v
cons v c (suc i) = c i

pub cons_choice : (S : System) (v : ℕ) (c : ℕ → ℕ) → Word S v → Choice S c → Choice S (cons v c)
cons_choice S v c w h zero = w
cons_choice S v c w h (suc i) = h i

module _ (S : System) (sound : Sound S) (p : ℕ → Bool) where
  -- ---- windows and cycles

  first_cycle : (c : ℕ → ℕ) (n : ℕ) → n < S.period → stream S c n ≡ S.queue (c 0) n
  first_cycle c n l = ap₂ (λ i r. S.queue (c i) r) (div-eq_of_lt l) (mod-eq_of_lt l)

  next_cycle : (c : ℕ → ℕ) (n : ℕ) → stream S c (S.period + n) ≡ stream S (λ i. c (suc i)) n
  next_cycle c n = ap₂ (λ i r. S.queue (c i) r) (add-div_left n sound.tick ∙ add-one (n / S.period)) (add-mod_left S.period n)

  -- a window inside the first cycle
  pub inside : (c : ℕ → ℕ) (s l : ℕ) → s + l ≤ S.period → count p (stream S c) s l ≡ count p (S.queue (c 0)) s l
  inside c s l h = count_same p (stream S c) (S.queue (c 0)) s s l (λ i m. first_cycle c (s + i) (omega arith))

  -- a window after the first cycle
  after : (c : ℕ → ℕ) (s t : ℕ) → count p (stream S c) (S.period + s) t ≡ count p (stream S (λ i. c (suc i))) s t
  after c s t =
      count_same p (stream S c) (stream S (λ i. c (suc i))) (S.period + s) s t
      (λ i m. ap (stream S c) (add_assoc S.period s i) ∙ next_cycle c (s + i))

  -- a window that goes on past the first cycle
  pub across : (c : ℕ → ℕ) (s l r : ℕ) → s + l ≡ S.period
      → count p (stream S c) s (l + r) ≡ count p (S.queue (c 0)) s l + count p (stream S (λ i. c (suc i))) 0 r
  across c s l r h =
      let e : s + l ≡ S.period + 0 = omega arith in
      count_split p (stream S c) s l r
      ∙ omega (arith, inside c s l (omega arith), after c 0 r, ap (λ x. count p (stream S c) x r) e)

  -- ---- the least over the words

  pub low_le : (v s l : ℕ) → Word S v → low S p s l ≤ count p (S.queue v) s l
  low_le v s l w = minimum_le S.word (λ v. count p (S.queue v) s l) l S.words v w.0 w.1

  pub low_at : (s l : ℕ) → (v : ℕ) × Word S v × (count p (S.queue v) s l ≡ low S p s l)
  low_at s l =
      let r =
      minimum_at S.word (λ v. count p (S.queue v) s l) l S.words sound.some_word sound.is_word.0 sound.is_word.1
      (count_le p (S.queue sound.some_word) s l) in
      (r.0, (r.1, r.2), r.3)

  -- ---- from a cycle's start on

  pub cycles_le : (k b : ℕ) → b ≤ S.period → (c : ℕ → ℕ) → Choice S c → k * cycle_least S p + low S p 0 b ≤ count p (stream S c) 0 (k * S.period + b)
  cycles_le zero b h c R = rw (zero-mul, zero-mul, zero-add, zero-add, inside c 0 b (omega arith)) (low_le (c 0) 0 b (R 0))
  cycles_le (suc k) b h c R =
      let r = cycles_le k b h (λ i. c (suc i)) (λ i. R (suc i)) in
      let e : suc k * S.period + b ≡ S.period + (k * S.period + b) = omega arith in
      rw (e, across c 0 S.period (k * S.period + b) (omega arith)) (omega (arith, low_le (c 0) 0 S.period (R 0)))

  pub cycles_at : (k b : ℕ) → b ≤ S.period → (c : ℕ → ℕ) × Choice S c × (count p (stream S c) 0 (k * S.period + b) ≡ k * cycle_least S p + low S p 0 b)
  cycles_at zero b h =
      let m = low_at 0 b in (
        (λ i. m.0),
        (λ i. m.1),
        rw (zero-mul S.period, zero-mul (cycle_least S p), zero-add b, zero-add (low S p 0 b), inside (λ i. m.0) 0 b (omega arith)) m.2,
      )
  cycles_at (suc k) b h =
      let m = low_at 0 S.period in
      let r = cycles_at k b h in
      let e : suc k * S.period + b ≡ S.period + (k * S.period + b) = omega arith in (
        cons m.0 r.0,
        cons_choice S m.0 r.0 m.1 r.1,
        rw (e, across (cons m.0 r.0) 0 S.period (k * S.period + b) (omega arith)) (omega (arith, m.2, r.2)),
      )

  tail_le : (r : ℕ) (c : ℕ → ℕ) → Choice S c → tail S p r ≤ count p (stream S c) 0 r
  tail_le r c R = rw div-add-mod' at (cycles_le (r / S.period) (r % S.period) (omega (arith, mod-lt r sound.tick)) c R)

  tail_at : (r : ℕ) → (c : ℕ → ℕ) × Choice S c × (count p (stream S c) 0 r ≡ tail S p r)
  tail_at r = rw div-add-mod' at (cycles_at (r / S.period) (r % S.period) (omega (arith, mod-lt r sound.tick)))

  -- ---- from tick s of a cycle on

  from_inside : (s t : ℕ) → s + t < S.period → from S p s t ≡ low S p s t
  from_inside s t h = pick_yes (ltb (s + t) S.period) _ _ (lt→ltb (s + t) S.period h)

  from_across : (s t : ℕ) → S.period ≤ s + t → from S p s t ≡ low S p s (S.period - s) + tail S p (t - (S.period - s))
  from_across s t h = pick_no (ltb (s + t) S.period) _ _ (le→nltb (s + t) S.period h)

  from_le : (s t : ℕ) → s < S.period → (c : ℕ → ℕ) → Choice S c → from S p s t ≤ count p (stream S c) s t
  from_le s t h c R = elim (le_or_lt S.period (s + t)) [
    | inr y ↦ rw (from_inside s t y, inside c s t (omega arith)) (low_le (c 0) s t (R 0))
    | inl n ↦
        let l = S.period - s in
        let e : l + (t - l) ≡ t = omega arith in
        omega (arith, from_across s t n, low_le (c 0) s l (R 0), tail_le (t - l) (λ i. c (suc i)) (λ i. R (suc i)), rw e at (across c s l (t - l) (omega arith)))
  ]

  from_at : (s t : ℕ) → s < S.period → (c : ℕ → ℕ) × Choice S c × (count p (stream S c) s t ≡ from S p s t)
  from_at s t h = elim (le_or_lt S.period (s + t)) [
    | inr y ↦ let m = low_at s t in ((λ i. m.0), (λ i. m.1), rw (from_inside s t y, inside (λ i. m.0) s t (omega arith)) m.2)
    | inl n ↦
        let l = S.period - s in
        let e : l + (t - l) ≡ t = omega arith in
        let m = low_at s l in
        let r = tail_at (t - l) in (
          cons m.0 r.0,
          cons_choice S m.0 r.0 m.1 r.1,
          omega (arith, from_across s t n, m.2, r.2, rw e at (across (cons m.0 r.0) s l (t - l) (omega arith))),
        )
  ]

  -- every start is some tick of some cycle
  start_le : (i s t : ℕ) → s < S.period → (c : ℕ → ℕ) → Choice S c → from S p s t ≤ count p (stream S c) (i * S.period + s) t
  start_le zero s t h c R = rw (zero-mul, zero-add) (from_le s t h c R)
  start_le (suc i) s t h c R =
      let e : suc i * S.period + s ≡ S.period + (i * S.period + s) = omega arith in
      rw (e, after c (i * S.period + s) t) (start_le i s t h (λ i. c (suc i)) (λ i. R (suc i)))

  -- ---- from any tick on

  least_of_le : (s t : ℕ) → s < S.period → least_of S p t ≤ from S p s t
  least_of_le s t h = minimum_le any (λ s. from S p s t) t S.period s h tt

  least_of_at : (t : ℕ) → (s : ℕ) × (s < S.period) × (from S p s t ≡ least_of S p t)
  least_of_at t =
      let r = from_at 0 t sound.tick in
      let m = minimum_at any (λ s. from S p s t) t S.period 0 sound.tick tt (omega (arith, r.2, count_le p (stream S r.0) 0 t)) in
      (m.0, m.1, m.3)

  -- the computed least is the least
  pub least_of_is : (t : ℕ) → Least (cycles S) p t (least_of S p t)
  least_of_is t =
      let m = least_of_at t in
      let r = from_at m.0 t m.1 in
      record {
        stream = stream S r.0;
        start = m.0;
        granted = record { chosen = r.0; words = r.1; each = λ n. refl };
        met = r.2 ∙ m.2;
        lower = λ g s h.
            let l = mod-lt s sound.tick in
            omega (
              arith,
              least_of_le (s % S.period) t l,
              rw (div-add-mod' s S.period) at (start_le (s / S.period) (s % S.period) t l h.chosen h.words),
              count_same p g (stream S h.chosen) s s t (λ i l. h.each (s + i)),
            );
      }

  -- ---- the law of periods

  tail_more : (r : ℕ) → tail S p (r + S.period) ≡ tail S p r + cycle_least S p
  tail_more r = rw (add-div_right r sound.tick, add-mod_right r S.period) (omega arith)

  from_more : (s t : ℕ) → s < S.period → S.period ≤ t → from S p s (t + S.period) ≡ from S p s t + cycle_least S p
  from_more s t h m =
      let e : t + S.period - (S.period - s) ≡ t - (S.period - s) + S.period = omega arith in
      omega (arith, from_across s t (omega arith), from_across s (t + S.period) (omega arith), ap (tail S p) e, tail_more (t - (S.period - s)))

  -- from one period on, a period more adds the least of a cycle
  pub least_period : (t : ℕ) → S.period ≤ t → least_of S p (t + S.period) ≡ least_of S p t + cycle_least S p
  least_period t h =
      let a = least_of_at t in
      let b = least_of_at (t + S.period) in
      omega (
        arith,
        a.2,
        b.2,
        from_more a.0 t a.1 h,
        from_more b.0 t b.1 h,
        least_of_le b.0 t b.1,
        least_of_le a.0 (t + S.period) a.1,
      )

  -- and so does each of k periods
  pub least_periods : (k t : ℕ) → S.period ≤ t → least_of S p (t + k * S.period) ≡ least_of S p t + k * cycle_least S p
  least_periods zero t h = rw (zero-mul, zero-mul, add-zero, add-zero)
  least_periods (suc k) t h =
      let e : t + suc k * S.period ≡ (t + k * S.period) + S.period = omega arith in
      rw e (omega (arith, least_period (t + k * S.period) (omega arith), least_periods k t h))

  -- a filled table of 2 P entries decides every window
  pub least_far : (t : ℕ) → S.period ≤ t
      → least_of S p t ≡ least_of S p (S.period + (t - S.period) % S.period) + (t - S.period) / S.period * cycle_least S p
  least_far t h =
      let P = S.period in
      let e : P + (t - P) % P + (t - P) / P * P ≡ t = omega (arith, div-add-mod' (t - P) P) in
      rw e at (least_periods ((t - P) / P) (P + (t - P) % P) (omega arith))

  pub least_one_period : least_of S p S.period ≤ cycle_least S p
  least_one_period =
      let m = low_at 0 S.period in
      let c : ℕ → ℕ = λ i. m.0 in
      omega (
        arith,
        m.2,
        inside c 0 S.period (omega arith),
        (least_of_is S.period).lower (stream S c) 0 (record { chosen = c; words = λ i. m.1; each = λ n. refl }),
      )
