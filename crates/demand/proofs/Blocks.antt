-- The work in a block: what is added at one window counts for those from there on, so work goes from a task into the block and no
-- window's demand changes. Assumes nothing.
use mathlib.Core.Path.{◌≡◌, refl, ap, ◌∙◌}
use mathlib.Core.List.{List}
use mathlib.Core.Logic.{inl, inr}
use Rattle.std.specs.Prelude.{Option, None, Some}
use Prim.Native.Nat.{ℕ, suc, ◌+◌, ◌-◌, ◌≤◌, ◌<◌, min}
use native.Mathlib.Nat.{zero-add}
use native.Mathlib.Omega.{arith}
use lib.ListN.{length, set, replicate, get_or-eq_default}
use lib.Seq.{get_or-set_same, get_or-set_other}
use Rattle.laws.specs.Sum.{sum}
use Rattle.laws.proofs.Test.{same_or_not, le_or_lt, last_or_before}
use Rattle.laws.proofs.Sum.{sum_split₀, sum_same, sum_zero, sum_change, sum_last₀, term_le₀}
use Rattle.theory.specs.Task.{demand_of}
use Rattle.theory.proofs.Demand.{demand_of_none}
use Rattle.table.specs.Columns.{entry}
use Rattle.slice.proofs.Between.{all_zero}
use Rattle.demand.specs.declared.series.Series.{Series}
use Rattle.demand.specs.Ahead.{far, waiting, waiting_for, no_series, series_at, ahead, entered, Enters, Next, SameTask}
use Rattle.demand.proofs.NextDeadlines.{first_due, ahead_set}

-- the sooner of two deadlines, where there is a first
abbrev pub soonest : Option ℕ → ℕ → Option ℕ
soonest None d = Some d
soonest (Some n) d = Some (min n d)

-- ---- what a block has

pub entered_zeros : (n s w : ℕ) → entered (replicate n 0) s w ≡ 0
entered_zeros n s w = sum_zero (entry (replicate n 0)) 0 (suc w - s) (λ i l. all_zero n (0 + i))

module _ (block : List ℕ) (s : ℕ) where
  -- up to the block's window i
  pub entered_at : (i : ℕ) → entered block s (s + i) ≡ sum (entry block) 0 i + entry block i
  entered_at i = ap (sum (entry block) 0) {x = suc (s + i) - s} {y = suc i} (omega arith) ∙ sum_last₀ (entry block) i

  -- past the block
  pub entered_all : length block ≡ 64 → (w : ℕ) → s + 64 ≤ suc w → entered block s w ≡ sum (entry block) 0 64
  entered_all e w l =
      let more = suc w - s - 64 in
      ap (sum (entry block) 0) {x = suc w - s} {y = 64 + more} (omega arith)
      ∙ (sum_split₀ (entry block) 64 more ∙ omega (arith, sum_zero (entry block) 64 more (λ i m. get_or-eq_default block 0 (omega (arith, e)))))

  -- ---- more work at window i

  module _ (i work : ℕ) (l : i < length block) where
    abbrev more : List ℕ
    more = set block i (entry block i + work)

    entered_before : (w : ℕ) → w < s + i → entered more s w ≡ entered block s w
    entered_before w h = sum_same (entry more) (entry block) 0 0 (suc w - s) (λ j m. rw (zero-add j) (get_or-set_other block i j (entry block i + work) 0 (omega arith)))

    entered_since : (w : ℕ) → s + i ≤ w → entered more s w ≡ entered block s w + work
    entered_since w h =
        let e = rw (zero-add i, get_or-set_same block i (entry block i + work) 0 l) at
        (sum_change (entry more) (entry block) 0 (suc w - s) i (omega arith) (λ j m o. rw (zero-add j) (get_or-set_other block i j (entry block i + work) 0 o))) in
        omega (arith, e)

-- ---- one task

-- the work due at d, past which the task waits for its next deadline
module _ (block : List ℕ) (s d gap work : ℕ) (some : 1 ≤ gap) (since : s ≤ d) (long : length block ≡ 64) (within : d < s + 64) where
  pub enters_more : (w : ℕ)
      → entered (set block (d - s) (entry block (d - s) + work)) s w + demand_of (waiting (d + gap) gap work) w ≡ entered block s w + demand_of (waiting d gap work) w
  enters_more w = elim (le_or_lt d w) [
    | inl h ↦ omega (arith, entered_since block s (d - s) work (omega (arith, long)) w (omega arith), first_due d gap work some w h)
    | inr h ↦ omega (
      arith,
      entered_before block s (d - s) work (omega (arith, long)) w (omega arith),
      demand_of_none (waiting d gap work) w h,
      demand_of_none (waiting (d + gap) gap work) w (omega arith),
    )
  ]

  -- and it fits
  pub enters_small : entered block s d + demand_of (waiting d gap work) d ≤ far → entry block (d - s) + work ≤ far
  enters_small h =
      let e : s + (d - s) ≡ d = omega arith in
      omega (arith, ap (entered block s) e, entered_at block s (d - s), first_due d gap work some d (omega arith))

-- ---- all tasks

module _ (n s : ℕ) (series₀ : List Series) (block₀ : List ℕ) where
  -- the first i series have gone past the block, the others not yet
  pub record Advancing (series : List Series) (block : List ℕ) (d : Option ℕ) (i : ℕ) : Type 0 where
    pub same : (j : ℕ) → SameTask (series_at series j) (series_at series₀ j)
    pub next : Next s series i d
    pub stays : (j : ℕ) → i ≤ j → series_at series j ≡ series_at series₀ j
    pub keeps : (w : ℕ) → entered block s w + ahead series n w ≡ entered block₀ s w + ahead series₀ n w

  pub advancing_none : Advancing series₀ block₀ None 0
  advancing_none = record { same = λ j. (refl, refl); next = refl; stays = λ j m. refl; keeps = λ w. refl }

  module _ (series : List Series) (block : List ℕ) (d : Option ℕ) (i : ℕ) (h : Advancing series block d i) (l : i < n) where
    pub advancing_small : (w : ℕ) → entered block₀ s w + ahead series₀ n w ≤ far → entered block s w + demand_of (waiting_for (series_at series i)) w ≤ far
    advancing_small w small =
        omega (arith, h.keeps w, term_le₀ (λ j. demand_of (waiting_for (series_at series j)) w) n i l)

    module _ (block' : List ℕ) (later : Series) (room : i < length series) (e : Enters s (series_at series i) later block block') where
      there : (j : ℕ) → ¬ (j ≡ i) → series_at (set series i later) j ≡ series_at series j
      there j o = get_or-set_other series i j later no_series o

      lower : (d : ℕ) → d ≤ later.next → ((j : ℕ) → j < i → d ≤ (series_at series j).next) → (j : ℕ) → j < i + 1 → d ≤ (series_at (set series i later) j).next
      lower d m before j o = elim (last_or_before j i (omega arith)) [
        | inl f ↦ rw (f, get_or-set_same series i later no_series room) m
        | inr f ↦ rw (there j (omega arith)) (before j f)
      ]

      next_of : (d d' : Option ℕ) → Next s series i d → d' ≡ soonest d later.next → Next s (set series i later) (i + 1) d'
      next_of None d' z m = rw m (e.past, lower later.next (omega arith) (λ j o. absurd (omega arith)))
      next_of (Some d) d' z m = rw m (omega (arith, e.past, z.0), lower (min d later.next) (omega arith) (λ j o. omega (arith, z.1 j o)))

      same_task : (j : ℕ) → SameTask (series_at (set series i later) j) (series_at series₀ j)
      same_task j = elim (same_or_not j i) [
        | inl f ↦
            let old = h.same i in
            let new = get_or-set_same series i later no_series room in
            rw f (ap (λ (r : Series). r.gap) new ∙ (e.same_gap ∙ old.0), ap (λ (r : Series). r.work) new ∙ (e.same_work ∙ old.1))
        | inr o ↦
            let old = h.same j in
            let new = there j o in
            (ap (λ (r : Series). r.gap) new ∙ old.0, ap (λ (r : Series). r.work) new ∙ old.1)
      ]

      pub advancing_more : (d' : Option ℕ) → d' ≡ soonest d later.next → Advancing (set series i later) block' d' (i + 1)
      advancing_more d' m = record {
        same = same_task;
        next = next_of d d' h.next m;
        stays = λ j o. there j (omega arith) ∙ h.stays j (omega arith);
        keeps = λ w. omega (arith, h.keeps w, e.keeps w, ahead_set series n w i later l room);
      }
