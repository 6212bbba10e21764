-- What each rule's test says, as a sentence on numbers: a test of parts says all its parts, and a test of all values says each.
-- Assumes nothing.
use mathlib.Core.Path.{◌≡◌}
use mathlib.Core.Bool.{Bool, true, false, not, ◌&&◌, ◌||◌}
use mathlib.Core.Logic.{◌↔◌}
use Prim.Native.Nat.{ℕ, zero, suc, ◌≤◌, ◌<◌}
use native.Mathlib.Omega.{arith}
use lib.Dec.{T, T_not, not_T, eqb, eqb→eq, leb, leb→le, le→leb, ltb→lt, lt→ltb}
use Rattle.laws.specs.Test.{none}
use Rattle.laws.proofs.Test.{eqb_of, and_left, and_right, and_both, and_fails_right, some_of, none_all, none_each}
use Rattle.theory.specs.Tree.{is_leaf, end}
use Rattle.theory.specs.Guards.{top}
use Rattle.theory.specs.Task.{LawfulTask}
use Rattle.table.specs.declared.Table.{Table}
use Rattle.table.specs.Table.{location_at, task_at, tree_of, tasks_of}
use Rattle.table.specs.Rules.{within, breaks_count, breaks_header, breaks_value, is_placed, breaks_shape, leads, breaks_gap, breaks_overlap, breaks_period, breaks_task}

-- ---- tests

kept : (b : Bool) → T (not (not b)) ↔ T b
kept true = (λ h. h, λ h. h)
kept false = (λ h. h, λ h. h)

both : (a b : Bool) → T (not (not (a && b))) ↔ (T a × T b)
both true b = (λ h. (tt, (kept b).0 h), λ h. (kept b).1 h.1)
both false b = (λ h. absurd h, λ h. absurd h.0)

all_three : (a b c : Bool) → T (not (not (a && (b && c)))) ↔ (T a × T b × T c)
all_three true b c = (λ h. let r = (both b c).0 h in (tt, r.0, r.1), λ h. (both b c).1 (h.1, h.2))
all_three false b c = (λ h. absurd h, λ h. absurd h.0)

all_four : (a b c d : Bool) → T (not (not (a && (b && (c && d))))) ↔ (T a × T b × T c × T d)
all_four true b c d = (λ h. let r = (all_three b c d).0 h in (tt, r.0, r.1, r.2), λ h. (all_three b c d).1 (h.1, h.2, h.3))
all_four false b c d = (λ h. absurd h, λ h. absurd h.0)

unless : (a b : Bool) → T (a || not b) ↔ (T b → T a)
unless true b = (λ h y. tt, λ h. tt)
unless false true = (λ h y. h, λ h. h tt)
unless false false = (λ h y. absurd y, λ h. tt)

at_most : (a b : ℕ) → T (leb a b) ↔ (a ≤ b)
at_most a b = (leb→le a b, le→leb a b)

equals : (a b : ℕ) → T (eqb a b) ↔ (a ≡ b)
equals a b = (eqb→eq a b, eqb_of a b)

between : (a b x : ℕ) → T (within a b x) ↔ ((a ≤ x) × (x ≤ b))
between a b x = (
  λ h. (leb→le a x (and_left (leb a x) (leb x b) h), leb→le x b (and_right (leb a x) (leb x b) h)),
  λ h. and_both (leb a x) (leb x b) (le→leb a x h.0) (le→leb x b h.1),
)

-- ---- the rules

-- no child's guard holds x
abbrev is_free : Table → ℕ → ℕ → Bool
is_free t v x = none (leads t v x) t.locations

-- i's guard holds x, and so does one of a child below i
abbrev is_doubled : Table → ℕ → ℕ → ℕ → Bool
is_doubled t v x i = leads t v x i && not (none (leads t v x) i)

module _ (t : Table) where
  pub count_rule : T (not (breaks_count t)) ↔ (((1 ≤ t.locations) × (t.locations ≤ 128)) × (t.tasks ≤ 32))
  count_rule =
      let r = both (within 1 128 t.locations) (leb t.tasks 32) in
      let n = between 1 128 t.locations in
      let m = at_most t.tasks 32 in
      (λ h. (n.0 (r.0 h).0, m.0 (r.0 h).1), λ h. r.1 (n.1 h.0, m.1 h.1))

  pub header_rule : T (not (breaks_header t)) ↔ ((t.version ≡ 1) × ((1 ≤ t.queues) × (t.queues ≤ 16)) × ((1 ≤ t.period) × (t.period ≤ 1024)))
  header_rule =
      let r = all_three (eqb t.version 1) (within 1 16 t.queues) (within 1 1024 t.period) in
      let v = equals t.version 1 in
      let q = between 1 16 t.queues in
      let p = between 1 1024 t.period in
      (λ h. (v.0 (r.0 h).0, q.0 (r.0 h).1, p.0 (r.0 h).2), λ h. r.1 (v.1 h.0, q.1 h.1, p.1 h.2))

  pub value_rule : (v : ℕ) → T (not (breaks_value t v))
      ↔ (((1 ≤ (location_at t v).ticks) × ((location_at t v).ticks ≤ 1024)) × ((location_at t v).queue ≤ t.queues) × ((location_at t v).variable ≤ 7) × ((location_at t v).low ≤ (location_at t v).high))
  value_rule v =
      let l = location_at t v in
      let r = all_four (within 1 1024 l.ticks) (leb l.queue t.queues) (leb l.variable 7) (leb l.low l.high) in
      let b = between 1 1024 l.ticks in
      let q = at_most l.queue t.queues in
      let x = at_most l.variable 7 in
      let g = at_most l.low l.high in (
        λ h. (b.0 (r.0 h).0, q.0 (r.0 h).1, x.0 (r.0 h).2, g.0 (r.0 h).3),
        λ h. r.1 (b.1 h.0, q.1 h.1, x.1 h.2, g.1 h.3),
      )

  pub root_rule : T (is_placed (location_at t 0) 0) ↔ (((location_at t 0).parent ≡ 0) × ((location_at t 0).low ≡ 0) × ((location_at t 0).high ≡ top))
  root_rule =
      let l = location_at t 0 in
      let r = all_three (eqb l.parent 0) (eqb l.low 0) (eqb l.high top) in
      let k = kept (is_placed l 0) in
      let p = equals l.parent 0 in
      let a = equals l.low 0 in
      let b = equals l.high top in (
        λ h. let s = r.0 (k.1 h) in (p.0 s.0, a.0 s.1, b.0 s.2),
        λ h. k.0 (r.1 (p.1 h.0, a.1 h.1, b.1 h.2)),
      )

  pub child_rule : (v : ℕ) → 0 < v → T (is_placed (location_at t v) v) ↔ ((location_at t v).parent < v)
  child_rule zero z = absurd (omega arith)
  child_rule (suc v) z = (ltb→lt (location_at t (suc v)).parent (suc v), lt→ltb (location_at t (suc v)).parent (suc v))

  pub shape_rule : (v : ℕ) → T (not (breaks_shape t v)) ↔ (T (is_placed (location_at t v) v) × (T (is_leaf (tree_of t) v) → (location_at t v).variable ≡ 0))
  shape_rule v =
      let r = both (is_placed (location_at t v) v) (eqb (location_at t v).variable 0 || not (is_leaf (tree_of t) v)) in
      let e = equals (location_at t v).variable 0 in
      let u = unless (eqb (location_at t v).variable 0) (is_leaf (tree_of t) v) in
      (λ h. ((r.0 h).0, λ y. e.0 (u.0 (r.0 h).1 y)), λ h. r.1 (h.0, u.1 (λ y. e.1 (h.1 y))))

  pub gap_rule : (v : ℕ) → T (not (breaks_gap t v)) ↔ (T (not (is_leaf (tree_of t) v)) → (x : ℕ) → x ≤ top → (u : ℕ) × (u < t.locations) × T (leads t v x u))
  gap_rule v =
      let inner = not (is_leaf (tree_of t) v) in
      let full = none (is_free t v) (suc top) in (
        λ h n x l. some_of (leads t v x) t.locations (none_each (is_free t v) (suc top) x ((kept full).0 (and_fails_right inner (not full) h n)) (omega arith)),
        λ h. not_T (inner && not full) (λ y.
            let (x, l, n) = some_of (is_free t v) (suc top) (and_right inner (not full) y) in
            let (u, m, z) = h (and_left inner (not full) y) x (omega arith) in
            T_not (leads t v x u) (none_each (leads t v x) t.locations u n m) z),
      )

  pub overlap_rule : (v : ℕ) → T (not (breaks_overlap t v))
      ↔ ((x i j : ℕ) → x ≤ top → i < t.locations → j < i → T (leads t v x i) → T (leads t v x j) → ⊥)
  overlap_rule v =
      let shared : ℕ → Bool = λ x. not (none (is_doubled t v x) t.locations) in (
        λ h x i j a b c y z.
            let e = none_each shared (suc top) x ((kept (none shared (suc top))).0 h) (omega arith) in
            let f = none_each (is_doubled t v x) t.locations i ((kept (none (is_doubled t v x) t.locations)).0 e) b in
            let g = (kept (none (leads t v x) i)).0 (and_fails_right (leads t v x i) (not (none (leads t v x) i)) f y) in
            T_not (leads t v x j) (none_each (leads t v x) i j g c) z,
        λ h. (kept (none shared (suc top))).1 (none_all shared (suc top) (λ x a.
            (kept (none (is_doubled t v x) t.locations)).1 (none_all (is_doubled t v x) t.locations (λ i b. not_T (is_doubled t v x i) (λ y.
            let (j, c, z) = some_of (leads t v x) i (and_right (leads t v x i) (not (none (leads t v x) i)) y) in
            h x i j (omega arith) b c (and_left (leads t v x i) (not (none (leads t v x) i)) y) z))))),
      )

  pub period_rule : (v : ℕ) → T (not (breaks_period t v)) ↔ (T (is_leaf (tree_of t) v) → end (tree_of t) v ≡ t.period)
  period_rule v =
      let leaf = is_leaf (tree_of t) v in
      let whole = eqb (end (tree_of t) v) t.period in
      let e = equals (end (tree_of t) v) t.period in (
        λ h y. e.0 ((kept whole).0 (and_fails_right leaf (not whole) h y)),
        λ h. not_T (leaf && not whole) (λ y. T_not whole (and_right leaf (not whole) y) (e.1 (h (and_left leaf (not whole) y)))),
      )

  pub task_rule : (i : ℕ) → T (not (breaks_task t i)) ↔ (((1 ≤ (task_at t i).queue) × ((task_at t i).queue ≤ t.queues)) × LawfulTask ((tasks_of t).task i))
  task_rule i =
      let k = task_at t i in
      let r = all_four (within 1 t.queues k.queue) (leb 1 k.work) (leb k.work k.deadline) (leb k.deadline k.gap) in
      let q = between 1 t.queues k.queue in
      let c = at_most 1 k.work in
      let d = at_most k.work k.deadline in
      let g = at_most k.deadline k.gap in (
        λ h. (q.0 (r.0 h).0, record { some_work = c.0 (r.0 h).1; fits = d.0 (r.0 h).2; constrained = g.0 (r.0 h).3 }),
        λ h. r.1 (q.1 h.0, c.1 h.1.some_work, d.1 h.1.fits, g.1 h.1.constrained),
      )
