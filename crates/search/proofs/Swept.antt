-- The search from block to block: no window passed is short, and the demand of every later one is what is passed and what the next
-- deadlines bring. Where nothing is due demand stays while least never falls. So the first short deadline is the shortest short
-- window, and where the next deadline is past the common multiple the queue meets. Assumes nothing.
use mathlib.Core.Path.{◌≡◌, refl, sym, ap, subst}
use mathlib.Core.List.{List}
use mathlib.Core.Logic.{inl, inr}
use Rattle.std.specs.Prelude.{Option, None, Some}
use Prim.Native.Nat.{ℕ, suc, ◌+◌, ◌-◌, ◌*◌, ◌≤◌, ◌<◌}
use native.Mathlib.Nat.{zero-add, mul-le-mul_right}
use native.Mathlib.Numerals.{add-one}
use native.Mathlib.Omega.{arith}
use lib.ListN.{length, replicate}
use Rattle.laws.specs.Test.{pick}
use Rattle.laws.specs.Sum.{sum}
use Rattle.laws.proofs.Test.{le_or_lt, last_or_before, pick_le}
use Rattle.laws.proofs.Sum.{sum_le, sum_const, sum_last₀}
use Rattle.theory.specs.Tree.{grants}
use Rattle.theory.specs.Task.{Tasks, LawfulTask, belongs, Each, demand_of, demand}
use Rattle.theory.specs.Verdict.{Meets, Short}
use Rattle.theory.specs.Search.{lcm_of}
use Rattle.theory.proofs.Demand.{lawful_gap, demand_zero}
use Rattle.theory.proofs.Multiple.{lcm_of_is}
use Rattle.theory.proofs.Verdict.{meets_far}
use Rattle.table.specs.declared.Table.{Table}
use Rattle.table.specs.Table.{tree_of, tasks_of}
use Rattle.table.specs.Rules.{WellFormed}
use Rattle.table.specs.Columns.{entry}
use Rattle.supply.proofs.Supply.{least, least_is, least_said, least_rises}
use Rattle.demand.specs.declared.series.Series.{Series}
use Rattle.demand.specs.Ahead.{far, series_at, ahead, LaidOut, entered, Next, Advances}
use Rattle.demand.proofs.NextDeadlines.{demand_of_le, ahead_none}
use Rattle.demand.proofs.Blocks.{entered_zeros, entered_at, entered_all}

-- every window before `next` is passed, and `next` is no later than any deadline to come
pub record Swept (t : Table) (q : ℕ) (series : List Series) (n demanded next : ℕ) : Type 0 where
  pub some : 1 ≤ next
  pub lower : (i : ℕ) → i < n → next ≤ (series_at series i).next
  pub demands : (w : ℕ) → next ≤ suc w → demand (tasks_of t) q w ≡ demanded + ahead series n w
  pub kept : (w : ℕ) → w < next → demand (tasks_of t) q w ≤ least t q w

-- and without a deadline to come every window is
abbrev pub SweptTo : Table → ℕ → List Series → ℕ → ℕ → Option ℕ → Type 0
SweptTo t q series n demanded None = (w : ℕ) → demand (tasks_of t) q w ≤ least t q w
SweptTo t q series n demanded (Some next) = Swept t q series n demanded next

-- so far within a block that begins at s: its first i windows are passed
pub record Scanned (t : Table) (q : ℕ) (series : List Series) (n : ℕ) (block : List ℕ) (s demanded i : ℕ) : Type 0 where
  pub demands : (w : ℕ) → s + i ≤ suc w → demand (tasks_of t) q w + sum (entry block) 0 i ≡ demanded + (entered block s w + ahead series n w)
  pub kept : (w : ℕ) → w < s + i → demand (tasks_of t) q w ≤ least t q w

-- how many windows are left up to the last
abbrev pub remaining : ℕ → Option ℕ → ℕ
remaining last None = 0
remaining last (Some next) = suc last - next

module _ (t : Table) (formed : WellFormed t) (q : ℕ) where
  abbrev ts : Tasks
  ts = tasks_of t

  lawful : Each ts q (λ i. LawfulTask (ts.task i))
  lawful i l y = (formed.task i l).2

  -- one task's demand is at most the window
  pub demand_few : (w : ℕ) → demand ts q w ≤ 32 * w
  demand_few w =
      omega (
        arith,
        sum_le (λ i. pick (belongs ts q i) (demand_of (ts.task i) w) 0) (λ i. w) 0 0 t.tasks
            (λ i l. rw (zero-add i) (omega (arith, pick_le (belongs ts q i) (demand_of (ts.task i) w), demand_of_le (ts.task i) ((formed.task i l).2) w))),
        sum_const w 0 t.tasks,
        mul-le-mul_right {m = t.tasks} {n = 32} w (formed.tasks),
      )

  -- up to the common multiple is enough
  pub meets_all : (last : ℕ) → last ≡ lcm_of ts q t.period → ((w : ℕ) → w ≤ last → demand ts q w ≤ least t q w) → Meets (grants (tree_of t)) ts q
  meets_all last e kept =
      let L = lcm_of_is ts q t.period formed.period.0 (λ i m y. lawful_gap (ts.task i) (lawful i m y)) in
      meets_far (grants (tree_of t)) ts q lawful (λ w. (least t q w, least_is t formed q w)) (lcm_of ts q t.period) L.some L.of_gaps
      (λ w m a b x. omega (arith, kept w (omega (arith, e)), least_said t formed q w m x))

  module _ (n : ℕ) where
    -- at a next deadline, over as many series
    pub swept_at : (series : List Series) (demanded start m : ℕ) (next : Option ℕ) → next ≡ Some start → m ≡ n → SweptTo t q series n demanded next
        → Swept t q series m demanded start
    swept_at series demanded start m next e f s = rw f (subst (SweptTo t q series n demanded) e s)

    pub swept_first : (series : List Series) → LaidOut t q series n → Swept t q series n 0 1
    swept_first series laid = record {
      some = omega arith;
      lower = λ i l. omega (arith, laid.lawful i l);
      demands = λ w l. omega (arith, laid.demands w);
      kept = λ w l. omega (arith, ap (demand ts q) {x = w} {y = 0} (omega arith), demand_zero ts q lawful);
    }

    -- where no next deadline is up to the last window, all windows up to it are passed
    pub passed : (series : List Series) (demanded last : ℕ) (next : Option ℕ) → SweptTo t q series n demanded next → ((d : ℕ) → next ≡ Some d → last < d)
        → (w : ℕ) → w ≤ last → demand ts q w ≤ least t q w
    passed series demanded last None s past w l = s w
    passed series demanded last (Some d) s past w l = s.kept w (omega (arith, past d refl))

    pub meets_past : (series : List Series) (demanded next : ℕ) → Swept t q series n demanded next → lcm_of ts q t.period < next → Meets (grants (tree_of t)) ts q
    meets_past series demanded next s l = meets_all (lcm_of ts q t.period) refl (λ w m. s.kept w (omega arith))

    -- what is due in the block fits
    pub block_small : (series : List Series) (demanded next : ℕ) → Swept t q series n demanded next → next ≤ 1000000
        → (w : ℕ) → w < next + 64 → entered (replicate 64 0) next w + ahead series n w ≤ far
    block_small series demanded next s l w m = elim (le_or_lt next w) [
      | inl h ↦ omega (arith, entered_zeros 64 next w, s.demands w (omega arith), demand_few w)
      | inr h ↦ omega (arith, entered_zeros 64 next w, ahead_none series n w (λ i k. omega (arith, s.lower i k)))
    ]

    -- ---- within a block

    module _ (series series' : List Series) (block : List ℕ) (s : ℕ) (later : Option ℕ) (moves : Advances n s series series' (replicate 64 0) block later) where
      pub scan_first : (demanded : ℕ) → Swept t q series n demanded s → Scanned t q series' n block s demanded 0
      unfolding sum
      scan_first demanded h = record {
        demands = λ w l. omega (arith, h.demands w (omega arith), moves.keeps w, entered_zeros 64 s w);
        kept = λ w l. h.kept w (omega arith);
      }

      -- past the block's deadlines nothing is ahead
      none_before : (d : Option ℕ) → Next s series' n d → (w : ℕ) → w < s + 64 → ahead series' n w ≡ 0
      none_before None z w l = ahead_none series' n w (λ i m. absurd (omega (arith, z)))
      none_before (Some d) z w l = ahead_none series' n w (λ i m. omega (arith, z.0, z.1 i m))

      clear : (w : ℕ) → w < s + 64 → ahead series' n w ≡ 0
      clear = none_before later moves.next

      module _ (demanded i : ℕ) (h : Scanned t q series' n block s demanded i) where
        module _ (l : i < 64) where
          pub demand_here : demanded + entry block i ≡ demand ts q (s + i)
          demand_here = omega (arith, h.demands (s + i) (omega arith), entered_at block s i, clear (s + i) (omega arith))

          -- without work the demand is that of the window before
          pub demand_stays : 1 ≤ s → entry block i ≡ 0 → demanded + entry block i ≤ least t q (s + i)
          demand_stays some e =
              let w = s + i - 1 in
              let before : entered block s w ≡ sum (entry block) 0 i = ap (sum (entry block) 0) {x = suc w - s} {y = i} (omega arith) in
              omega (arith, h.demands w (omega arith), before, clear w (omega arith), h.kept w (omega arith), least_rises t formed q w (s + i) (omega arith))

          pub short_here : (supply : ℕ) → 1 ≤ s → supply ≡ least t q (s + i) → supply < demanded + entry block i → Short (grants (tree_of t)) ts q (s + i) (demanded + entry block i) supply
          short_here supply some e less = record {
            some = omega arith;
            demands = sym demand_here;
            supplies = rw e (least_is t formed q (s + i));
            exceeds = less;
            shortest = λ w m a b x. omega (arith, h.kept w b, least_said t formed q w m x);
          }

          pub scan_more : demanded + entry block i ≤ least t q (s + i) → Scanned t q series' n block s (demanded + entry block i) (i + 1)
          scan_more fits = record {
            demands = λ w m. rw add-one (omega (arith, h.demands w (omega arith), sum_last₀ (entry block) i));
            kept = λ w m. elim (last_or_before w (s + i) (omega arith)) [
              | inl e ↦ rw e (omega (arith, demand_here))
              | inr g ↦ h.kept w g
            ];
          }

        -- past the block
        module _ (some : 1 ≤ s) (long : length block ≡ 64) (all : i ≡ 64) where
          after : (w : ℕ) → s + 64 ≤ suc w → demand ts q w ≡ demanded + ahead series' n w
          after w l = omega (arith, h.demands w (omega arith), entered_all block s long w l, ap (sum (entry block) 0) all)

          -- up to the next deadline demand stays
          kept : (w : ℕ) → ahead series' n w ≡ 0 → demand ts q w ≤ least t q w
          kept w none = elim (le_or_lt (s + 64) w) [
            | inl g ↦
                let end = s + 63 in
                omega (arith, after w (omega arith), none, after end (omega arith), h.kept end (omega arith), least_rises t formed q end w (omega arith))
            | inr g ↦ h.kept w (omega arith)
          ]

          swept_to : (d : Option ℕ) → Next s series' n d → SweptTo t q series' n demanded d
          swept_to None z = λ w. kept w (ahead_none series' n w (λ j m. absurd (omega (arith, z))))
          swept_to (Some d) z = record {
            some = omega (arith, z.0);
            lower = z.1;
            demands = λ w l. after w (omega (arith, z.0));
            kept = λ w l. kept w (ahead_none series' n w (λ j m. omega (arith, z.1 j m)));
          }

          pub swept_more : SweptTo t q series' n demanded later
          swept_more = swept_to later moves.next
