-- A table is well-formed exactly where the judge does not refuse it: rule by rule, the test says the sentence. That a guard's high
-- end is a value is no rule of the judge: the number's width says it. Assumes nothing.
use mathlib.Core.Path.{◌≡◌, ap}
use mathlib.Core.Logic.{inl, inr}
use Prim.Native.Nat.{ℕ, zero, suc, ◌≤◌, ◌<◌}
use native.Mathlib.Omega.{arith}
use lib.Dec.{T}
use Rattle.laws.proofs.Test.{le_or_lt, and_left, and_right, and_both}
use Rattle.theory.specs.Tree.{is_child, Child, Formed, Position, grant}
use Rattle.theory.specs.Guards.{holds, Guarded}
use Rattle.theory.specs.Task.{LawfulTask, Each}
use Rattle.theory.proofs.Paths.{child_parent, child_below}
use Rattle.table.specs.declared.Table.{Table}
use Rattle.table.specs.Table.{location_at, tree_of, tasks_of}
use Rattle.table.specs.Ranged.{HighInWidth}
use Rattle.table.specs.Rules.{is_placed, fine, judged, WellFormed}
use Rattle.table.proofs.Unbroken.{Unbroken, unbroken, unbroken_fine}
use Rattle.table.proofs.Sentences.{count_rule, header_rule, value_rule, root_rule, child_rule, shape_rule, gap_rule, overlap_rule, period_rule, task_rule}

-- ---- what breaks no rule is well-formed

module _ (t : Table) (u : Unbroken t) where
  some_location : 0 < t.locations
  some_location = ((count_rule t).0 u.count).0.0

  falls : (v : ℕ) → 0 < v → v < t.locations → (location_at t v).parent < v
  falls v z l = (child_rule t v z).0 ((shape_rule t v).0 (u.shape v l)).0

  is_formed : Formed (tree_of t)
  is_formed = record {
    root = some_location;
    falls = falls;
    spends = λ v l. ((value_rule t v).0 (u.value v l)).0.0;
    whole = λ v l. (period_rule t v).0 (u.period v l.0) l.1;
  }

  is_guarded : HighInWidth t → Guarded (tree_of t)
  is_guarded high = record {
    no_gap = λ v x s n h.
        let (w, l, y) = (gap_rule t v).0 (u.gap v s) n x h in
        (w, (l, and_left (is_child (tree_of t) v w) _ y), and_right (is_child (tree_of t) v w) _ y);
    no_overlap = λ v i j x h a b c d.
        let s : v < t.locations = omega (arith, child_parent (tree_of t) v i a, falls i (child_below (tree_of t) v i a) a.0) in
        let apart = (overlap_rule t v).0 (u.overlap v s) x in
        let in_i = and_both (is_child (tree_of t) v i) (holds (tree_of t) x i) a.1 c in
        let in_j = and_both (is_child (tree_of t) v j) (holds (tree_of t) x j) b.1 d in
        elim (le_or_lt i j) [
          | inl g ↦ elim (le_or_lt j i) [
            | inl k ↦ omega arith
            | inr k ↦ absurd (apart j i h b.0 k in_j in_i)
          ]
          | inr g ↦ absurd (apart i j h a.0 g in_i in_j)
        ];
    some_value = λ v z l. (((value_rule t v).0 (u.value v l)).3, high v l);
  }

  unbroken_well_formed : HighInWidth t → WellFormed t
  unbroken_well_formed high = record {
    version = ((header_rule t).0 u.header).0;
    queues = ((header_rule t).0 u.header).1;
    period = ((header_rule t).0 u.header).2;
    locations = ((count_rule t).0 u.count).0;
    tasks = ((count_rule t).0 u.count).1;
    ticks = λ v l. ((value_rule t v).0 (u.value v l)).0.1;
    queue = λ v l. ((value_rule t v).0 (u.value v l)).1;
    variable = λ v l. ((value_rule t v).0 (u.value v l)).2;
    root = (root_rule t).0 ((shape_rule t 0).0 (u.shape 0 some_location)).0;
    leaf = λ v l. ((shape_rule t v).0 (u.shape v l)).1;
    formed = is_formed;
    guarded = is_guarded high;
    task = λ i l. let r = (task_rule t i).0 (u.task i l) in (r.0.0, r.0.1, r.1);
  }

-- ---- what is well-formed breaks no rule

module _ (t : Table) (w : WellFormed t) where
  is_placed_law : (v : ℕ) → v < t.locations → T (is_placed (location_at t v) v)
  is_placed_law zero l = (root_rule t).1 w.root
  is_placed_law (suc v) l = (child_rule t (suc v) (omega arith)).1 (w.formed.falls (suc v) (omega arith) l)

  -- the root's guard holds all values, another's some
  some_value : (v : ℕ) → v < t.locations → (location_at t v).low ≤ (location_at t v).high
  some_value zero l = omega (arith, w.root.1)
  some_value (suc v) l = (w.guarded.some_value (suc v) (omega arith) l).0

  breaks_none : Unbroken t
  breaks_none = record {
    count = (count_rule t).1 (w.locations, w.tasks);
    header = (header_rule t).1 (w.version, w.queues, w.period);
    value = λ v l. (value_rule t v).1 ((w.formed.spends v l, w.ticks v l), w.queue v l, w.variable v l, some_value v l);
    shape = λ v l. (shape_rule t v).1 (is_placed_law v l, w.leaf v l);
    gap = λ v l. (gap_rule t v).1 (λ n x h.
        let (u, c, y) = w.guarded.no_gap v x l n h in
        (u, c.0, and_both (is_child (tree_of t) v u) _ c.1 y));
    overlap = λ v l. (overlap_rule t v).1 (λ x i j h s g y z.
        let a : Child (tree_of t) v i = (s, and_left (is_child (tree_of t) v i) _ y) in
        let b : Child (tree_of t) v j = (omega arith, and_left (is_child (tree_of t) v j) _ z) in
        omega (arith, w.guarded.no_overlap v i j x h a b (and_right (is_child (tree_of t) v i) _ y) (and_right (is_child (tree_of t) v j) _ z)));
    period = λ v l. (period_rule t v).1 (λ y. w.formed.whole v (l, y));
    task = λ i l. let r = w.task i l in (task_rule t i).1 ((r.0, r.1), r.2);
  }

-- ---- so they are the same

pub judged_well_formed : (t : Table) → HighInWidth t → judged t ≡ fine → WellFormed t
judged_well_formed t high e = unbroken_well_formed t (unbroken t (ap (λ r. r.number) e)) high

pub well_formed_judged : (t : Table) → WellFormed t → judged t ≡ fine
well_formed_judged t w = unbroken_fine t (breaks_none t w)

-- the counts, of any table that is judged fine
pub judged_counts : (t : Table) → (judged t).number ≡ 0 → (t.locations ≤ 128) × (t.tasks ≤ 32)
judged_counts t e = let r = (count_rule t).0 (unbroken t e).count in (r.0.1, r.1)

-- ---- what the theory asks

pub tasks_lawful : (t : Table) → WellFormed t → (q : ℕ) → Each (tasks_of t) q (λ i. LawfulTask ((tasks_of t).task i))
tasks_lawful t w q i l b = (w.task i l).2

pub grants_queues : (t : Table) → WellFormed t → (a : Position) → a.location < t.locations → grant (tree_of t) a ≤ t.queues
grants_queues t w a l = w.queue a.location l
