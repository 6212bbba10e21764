-- Laying out a queue's own tasks, one series after the other: the series have the demand of the tasks passed. Assumes nothing.
use mathlib.Core.Path.{◌≡◌, refl, sym, ap, ap₂, ◌∙◌}
use mathlib.Core.Bool.{not}
use mathlib.Core.List.{List}
use mathlib.Core.Logic.{inl, inr}
use Prim.Native.Nat.{ℕ, ◌+◌, ◌≤◌, ◌<◌}
use native.Mathlib.Nat.{zero-add}
use native.Mathlib.Numerals.{add-one}
use native.Mathlib.Omega.{arith}
use lib.Dec.{T}
use lib.ListN.{length, set}
use lib.Seq.{get_or-set_same, get_or-set_other}
use Rattle.laws.specs.Test.{pick}
use Rattle.laws.specs.Sum.{sum}
use Rattle.laws.proofs.Test.{last_or_before, pick_yes, pick_no}
use Rattle.laws.proofs.Sum.{sum_same, sum_last₀}
use Rattle.theory.specs.Task.{LawfulTask, belongs, demand_of}
use Rattle.table.specs.declared.Table.{Table}
use Rattle.table.specs.Table.{task_at, tasks_of}
use Rattle.demand.specs.declared.series.Series.{Series}
use Rattle.demand.specs.Ahead.{waiting_for, laid, no_series, series_at, ahead}

module _ (t : Table) (q : ℕ) where
  -- task i's part in the demand of the queue
  abbrev part : ℕ → ℕ → ℕ
  part w i = pick (belongs (tasks_of t) q i) (demand_of ((tasks_of t).task i) w) 0

  -- of the first m tasks, n are the queue's
  pub record Own (series : List Series) (n m : ℕ) : Type 0 where
    pub few : n ≤ m
    pub lawful : (i : ℕ) → i < n → LawfulTask (waiting_for (series_at series i))
    pub small : (i : ℕ) → i < n → (series_at series i).gap ≤ 65535
    pub demands : (w : ℕ) → ahead series n w ≡ sum (part w) 0 m

  pub own_none : (series : List Series) → Own series 0 0
  unfolding sum
  own_none series = record { few = omega arith; lawful = λ i l. absurd (omega arith); small = λ i l. absurd (omega arith); demands = λ w. refl }

  module _ (series : List Series) (n m : ℕ) (own : Own series n m) where
    pub own_other : T (not (belongs (tasks_of t) q m)) → Own series n (m + 1)
    own_other y = record {
      few = omega (arith, own.few);
      lawful = own.lawful;
      small = own.small;
      demands = λ w. rw add-one (omega (arith, own.demands w, sum_last₀ (part w) m, pick_no (belongs (tasks_of t) q m) (demand_of ((tasks_of t).task m) w) 0 y));
    }

    -- ---- one more of the queue's

    module _ (room : n < length series) where
      abbrev more : ℕ → Series
      more = series_at (set series n (laid (task_at t m)))

      there : (i : ℕ) → i < n → more i ≡ series_at series i
      there i l = get_or-set_other series n i (laid (task_at t m)) no_series (omega arith)

      here : more n ≡ laid (task_at t m)
      here = get_or-set_same series n (laid (task_at t m)) no_series room

      -- what holds of each series and of the new one
      each : (A : Series → Type 0) → ((i : ℕ) → i < n → A (series_at series i)) → A (laid (task_at t m)) → (i : ℕ) → i < n + 1 → A (more i)
      each A old new i l = elim (last_or_before i n (omega arith)) [
        | inl e ↦ rw (e, here) new
        | inr h ↦ rw (there i h) (old i h)
      ]

      pub own_more : T (belongs (tasks_of t) q m) → LawfulTask ((tasks_of t).task m) → (task_at t m).gap ≤ 65535 → Own (set series n (laid (task_at t m))) (n + 1) (m + 1)
      own_more y lawful small = record {
        few = omega (arith, own.few);
        lawful = each (λ s. LawfulTask (waiting_for s)) own.lawful (record { some_work = lawful.some_work; fits = lawful.fits; constrained = lawful.constrained });
        small = each (λ s. s.gap ≤ 65535) own.small small;
        demands = λ w.
            let old = sum_same (λ i. demand_of (waiting_for (more i)) w) (λ i. demand_of (waiting_for (series_at series i)) w) 0 0 n (λ i l. rw (zero-add i) (ap (λ s. demand_of (waiting_for s) w) (there i l))) in
            let last : demand_of (waiting_for (more n)) w ≡ demand_of ((tasks_of t).task m) w = ap (λ s. demand_of (waiting_for s) w) here in
            rw (add-one, add-one) (sum_last₀ (λ i. demand_of (waiting_for (more i)) w) n ∙ (ap₂ ◌+◌ (old ∙ own.demands w) (last ∙ sym (pick_yes (belongs (tasks_of t) q m) _ 0 y)) ∙ sym (sum_last₀ (part w) m)));
      }
