-- Tables that are the same in what counts are judged the same: up to SHAPE a rule looks at counted entries only, and past it each
-- parent is a counted location, so that paths stay among them. Assumes nothing.
use mathlib.Core.Path.{◌≡◌, refl, sym, ap, ap₂, ◌∙◌}
use mathlib.Core.Bool.{Bool, not, ◌&&◌, ◌||◌}
use mathlib.Core.Logic.{inl, inr}
use Prim.Native.Nat.{ℕ, zero, suc, ◌+◌, ◌<◌}
use native.Mathlib.Omega.{arith}
use lib.Dec.{eqb, leb, ltb}
use Rattle.laws.specs.Test.{none}
use Rattle.laws.specs.Climb.{climb}
use Rattle.laws.specs.Found.{Found, nobody, at, found, first}
use Rattle.laws.proofs.Test.{le_or_lt, eqb_of, neqb_of, pick_yes, pick_no, none_same}
use Rattle.laws.proofs.Climb.{Falls}
use Rattle.laws.proofs.First.{first_nobody}
use Rattle.theory.specs.Tree.{is_child, is_leaf, end}
use Rattle.theory.specs.Guards.{top}
use Rattle.table.specs.declared.Location.{Location}
use Rattle.table.specs.declared.Task.{Task}
use Rattle.table.specs.declared.Table.{Table}
use Rattle.table.specs.declared.Refusal.{Refusal}
use Rattle.table.specs.Table.{location_at, Same, tree_of}
use Rattle.table.specs.Rules.{within, breaks_count, breaks_header, breaks_value, is_placed, breaks_shape, leads, breaks_gap, breaks_overlap, breaks_period, breaks_task, refusal, refuse, found_if, location_place, task_place, judged}
use Rattle.table.proofs.Sentences.{child_rule, shape_rule}

-- ---- an equivalence

pub same_refl : (t : Table) → Same t t
same_refl t = record { version = refl; queues = refl; period = refl; locations = refl; tasks = refl; location = λ v l. refl; task = λ i l. refl }

pub same_sym : (t u : Table) → Same t u → Same u t
same_sym t u s = record {
  version = sym s.version;
  queues = sym s.queues;
  period = sym s.period;
  locations = sym s.locations;
  tasks = sym s.tasks;
  location = λ v l. sym (s.location v (omega (arith, s.locations)));
  task = λ i l. sym (s.task i (omega (arith, s.tasks)));
}

pub same_trans : (t u w : Table) → Same t u → Same u w → Same t w
same_trans t u w s r = record {
  version = s.version ∙ r.version;
  queues = s.queues ∙ r.queues;
  period = s.period ∙ r.period;
  locations = s.locations ∙ r.locations;
  tasks = s.tasks ∙ r.tasks;
  location = λ v l. s.location v l ∙ r.location v (omega (arith, s.locations));
  task = λ i l. s.task i l ∙ r.task i (omega (arith, s.tasks));
}

-- ---- searches and climbs that agree

first_same : (p r : ℕ → Bool) (a k : ℕ) → ((i : ℕ) → i < a + k → p i ≡ r i) → first p a k ≡ first r a k
unfolding first
first_same p r a zero e = refl
first_same p r a (suc k) e = ap₂ (λ b o. found b a o) (e a (omega arith)) (first_same p r (suc a) k (λ i l. e i (omega arith)))

lowest_same : (p r : ℕ → Bool) (n m : ℕ) → n ≡ m → ((i : ℕ) → i < n → p i ≡ r i) → first p 0 n ≡ first r 0 m
lowest_same p r n m e h = first_same p r 0 n (λ i l. h i (omega arith)) ∙ ap (first r 0) e

none_agree : (p r : ℕ → Bool) (n m : ℕ) → n ≡ m → ((i : ℕ) → i < n → p i ≡ r i) → none p n ≡ none r m
none_agree p r n m e h = none_same p r n h ∙ ap (none r) e

climb_same : (parent other : ℕ → ℕ) (size : ℕ) → Falls parent size → ((v : ℕ) → v < size → parent v ≡ other v)
    → (base : ℕ → ℕ) (f g : ℕ → ℕ → ℕ) → ((v x : ℕ) → 0 < v → v < size → f v x ≡ g v x)
    → (k v : ℕ) → v < size → climb parent base f k v ≡ climb other base g k v
unfolding climb
climb_same parent other size falls e base f g h zero v l = refl
climb_same parent other size falls e base f g h (suc k) v l = elim (le_or_lt v 0) [
  | inl z ↦
      let y = eqb_of v 0 (omega arith) in
      pick_yes (eqb v 0) _ _ y ∙ sym (pick_yes (eqb v 0) _ _ y)
  | inr z ↦
      let n = neqb_of v 0 (omega arith) in
      let r = climb_same parent other size falls e base f g h k (parent v) (omega (arith, falls v z l)) in
      pick_no (eqb v 0) _ _ n
      ∙ (ap (f v) (r ∙ ap (climb other base g k) (e v l)) ∙ h v _ z l)
      ∙ sym (pick_no (eqb v 0) _ _ n)
]

refuse_same : (n : ℕ) (p r : ℕ → ℕ) (o w : Found) (x y : Refusal) → ((v : ℕ) → p v ≡ r v) → o ≡ w → (o ≡ nobody → x ≡ y) → refuse n p o x ≡ refuse n r w y
refuse_same n p r o w x y e f h = go o h ∙ ap (λ z. refuse n r z y) f
  where
    go : (o : Found) → (o ≡ nobody → x ≡ y) → refuse n p o x ≡ refuse n r o y
    go nobody h = h refl
    go (at v) h = ap (refusal n) (e v)

-- ---- rule by rule

module _ (t u : Table) (s : Same t u) where
  leads_same : (v x w : ℕ) → w < t.locations → leads t v x w ≡ leads u v x w
  leads_same v x w l = ap (λ (a : Location). (ltb 0 w && eqb a.parent v) && (leb a.low x && leb x a.high)) (s.location w l)

  leaf_same : (v : ℕ) → is_leaf (tree_of t) v ≡ is_leaf (tree_of u) v
  leaf_same v =
      none_agree (is_child (tree_of t) v) (is_child (tree_of u) v) t.locations u.locations s.locations
      (λ w l. ap (λ (a : Location). ltb 0 w && eqb a.parent v) (s.location w l))

  count_same : breaks_count t ≡ breaks_count u
  count_same = ap₂ (λ n m. not (within 1 128 n && leb m 32)) s.locations s.tasks

  header_same : breaks_header t ≡ breaks_header u
  header_same = ap₂ (λ a b. not (a && b)) (ap (λ n. eqb n 1) s.version) (ap₂ (λ q p. within 1 16 q && within 1 1024 p) s.queues s.period)

  value_same : (v : ℕ) → v < t.locations → breaks_value t v ≡ breaks_value u v
  value_same v l =
      ap₂ (λ (a : Location) q. not (within 1 1024 a.ticks && (leb a.queue q && (leb a.variable 7 && leb a.low a.high)))) (s.location v l) s.queues

  shape_same : (v : ℕ) → v < t.locations → breaks_shape t v ≡ breaks_shape u v
  shape_same v l = ap₂ (λ (a : Location) b. not (is_placed a v && (eqb a.variable 0 || not b))) (s.location v l) (leaf_same v)

  gap_same : (v : ℕ) → breaks_gap t v ≡ breaks_gap u v
  gap_same v =
      ap₂ (λ a b. not a && not b) (leaf_same v)
      (none_same _ _ (suc top) (λ x h. none_agree (leads t v x) (leads u v x) t.locations u.locations s.locations (λ w l. leads_same v x w l)))

  overlap_same : (v : ℕ) → breaks_overlap t v ≡ breaks_overlap u v
  overlap_same v =
      ap not (none_same _ _ (suc top) (λ x h. ap not (none_agree _ _ t.locations u.locations s.locations
      (λ w l. ap₂ (λ a b. a && not b) (leads_same v x w l) (none_same (leads t v x) (leads u v x) w (λ i m. leads_same v x i (omega arith)))))))

  period_same : Falls (λ v. (location_at t v).parent) t.locations → (v : ℕ) → v < t.locations → breaks_period t v ≡ breaks_period u v
  period_same falls v l = ap₂ (λ a b. a && not b) (leaf_same v) (ap₂ eqb end_same s.period)
    where
      part : (w : ℕ) → w < t.locations → (location_at t w).ticks ≡ (location_at u w).ticks
      part w l = ap (λ (a : Location). a.ticks) (s.location w l)

      up : (w : ℕ) → w < t.locations → (location_at t w).parent ≡ (location_at u w).parent
      up w l = ap (λ (a : Location). a.parent) (s.location w l)

      end_same : end (tree_of t) v ≡ end (tree_of u) v
      end_same =
          ap₂ ◌+◌
          (climb_same (λ w. (location_at t w).parent) (λ w. (location_at u w).parent) t.locations falls up (λ w. 0)
          (λ w x. x + (location_at t (location_at t w).parent).ticks) (λ w x. x + (location_at u (location_at u w).parent).ticks)
          (λ w x z m. ap (λ n. x + n) (part (location_at t w).parent (omega (arith, falls w z m)) ∙ ap (λ n. (location_at u n).ticks) (up w m)))
          v v l)
          (part v l)

  task_same : (i : ℕ) → i < t.tasks → breaks_task t i ≡ breaks_task u i
  task_same i l =
      ap₂ (λ (k : Task) q. not (within 1 q k.queue && (leb 1 k.work && (leb k.work k.deadline && leb k.deadline k.gap)))) (s.task i l) s.queues

  lowest : (p r : ℕ → Bool) → ((v : ℕ) → v < t.locations → p v ≡ r v) → first p 0 t.locations ≡ first r 0 u.locations
  lowest p r = lowest_same p r t.locations u.locations s.locations

  pub judged_same : judged t ≡ judged u
  unfolding judged
  judged_same =
      refuse_same 3 (λ v. 0) (λ v. 0) _ _ _ _ (λ v. refl) (ap found_if count_same) (λ a.
      refuse_same 4 (λ v. 0) (λ v. 0) _ _ _ _ (λ v. refl) (ap found_if header_same) (λ b.
      refuse_same 4 location_place location_place _ _ _ _ (λ v. refl) (lowest (breaks_value t) (breaks_value u) value_same) (λ c.
      refuse_same 5 location_place location_place _ _ _ _ (λ v. refl) (lowest (breaks_shape t) (breaks_shape u) shape_same) (λ d.
      refuse_same 6 location_place location_place _ _ _ _ (λ v. refl) (lowest (breaks_gap t) (breaks_gap u) (λ v l. gap_same v)) (λ f.
      refuse_same 7 location_place location_place _ _ _ _ (λ v. refl) (lowest (breaks_overlap t) (breaks_overlap u) (λ v l. overlap_same v)) (λ g.
      refuse_same 8 location_place location_place _ _ _ _ (λ v. refl) (lowest (breaks_period t) (breaks_period u) (period_same (λ v z l. (child_rule t v z).0 ((shape_rule t v).0 (first_nobody (breaks_shape t) t.locations v d l)).0))) (λ h.
      refuse_same 9 (task_place t) (task_place u) _ _ _ _ (λ i. ap (λ n. n + 1 + i) s.locations) (lowest_same (breaks_task t) (breaks_task u) t.tasks u.tasks s.tasks task_same) (λ k.
      refl))))))))
