-- What was written is read: after v locations and i tasks the table so far is the first v locations and i tasks of the one written,
-- and the next field is where the reader looks. Assumes nothing.
use mathlib.Core.Path.{◌≡◌, refl, sym, ap, subst, ◌∙◌}
use mathlib.Core.List.{List, [], ◌∷◌, ◌++◌}
use mathlib.Core.Bool.{not}
use mathlib.Core.Logic.{inl, inr}
use Prim.Native.Nat.{ℕ, zero, suc, ◌+◌, ◌-◌, ◌*◌, ◌≤◌, ◌<◌}
use native.Mathlib.Nat.{add-zero}
use native.Mathlib.Omega.{arith}
use lib.ListN.{length, get_or, drop, length-set, length-replicate}
use lib.Seq.{get_or-drop, drop-drop}
use lib.Dec.{T, eqb, ltb, lt→ltb}
use Rattle.laws.proofs.Test.{le_or_lt, eqb_of, neqb_of, and_both, and_fails_left}
use Rattle.table.specs.declared.Location.{Location}
use Rattle.table.specs.declared.Task.{Task}
use Rattle.table.specs.declared.Table.{Table}
use Rattle.table.specs.Table.{no_location, no_task, location_at, task_at, Same}
use Rattle.table.specs.Rules.{fine}
use Rattle.table.proofs.Widths.{InWidth}
use Rattle.format.specs.Format.{number16, header_of, location_of, task_of, location_field, task_field, location_offset, task_offset, record_of}
use Rattle.format.specs.Tests.{is_field, is_location}
use Rattle.record.specs.declared.ReadAnswer.{ReadAnswer}
use Rattle.record.specs.Reading.{accepted, with_location, with_task, fields_from, most_fields, fields_of}
use Rattle.record.proofs.Payloads.{location_back, task_back, header_back}
use Rattle.record.proofs.Pieces.{each_stored}
use Rattle.record.proofs.Places.{record_rows, length_record, location_at_law, task_at_law}
use Rattle.record.proofs.Fields.{header_number_law, header_fine, location_number, task_number, location_read, task_read, end_read}

-- ---- the field at a place, known by what is there

module _ (s : List ℕ) (at tag len : ℕ) (p : List ℕ) (here : drop at s ≡ tag ∷ 0 ∷ len ∷ p) where
  tag_is : get_or s at 0 ≡ tag
  tag_is = ap (λ n. get_or s n 0) (sym (add-zero at)) ∙ (sym (get_or-drop at s 0 0) ∙ ap (λ (r : List ℕ). get_or r 0 0) here)

  field_there : T (is_field s at tag len)
  field_there =
      and_both (eqb (get_or s at 0) tag) (eqb (number16 (drop (at + 1) s)) len)
      (eqb_of (get_or s at 0) tag tag_is)
      (eqb_of (number16 (drop (at + 1) s)) len (ap number16 (sym (drop-drop 1 at s) ∙ ap (drop 1) here) ∙ omega arith))

  payload_there : drop (at + 3) s ≡ p
  payload_there = sym (drop-drop 3 at s) ∙ ap (drop 3) here

-- ---- the table so far

-- the first v locations and i tasks
abbrev firsts : Table → ℕ → ℕ → Table
firsts t v i = record { version = t.version; queues = t.queues; period = t.period; locations = v; tasks = i; location = t.location; task = t.task }

-- r holds them, and has room for as many as there can be
record Holds (t : Table) (v i : ℕ) (r : Table) : Type 0 where
  same : Same r (firsts t v i)
  locations_long : length r.location ≡ 128
  tasks_long : length r.task ≡ 32

module _ (t : Table) (v i : ℕ) (r : Table) (holds : Holds t v i r) where
  one_location : (l : Location) → v < 128 → l ≡ location_at t v → Holds t (suc v) i (with_location r l)
  one_location l h e =
      let s = holds.same in
      record {
        same = record {
          version = s.version;
          queues = s.queues;
          period = s.period;
          locations = omega (arith, s.locations);
          tasks = s.tasks;
          location = each_stored r.location r.locations l no_location (omega (arith, s.locations, holds.locations_long)) (λ u x. x ≡ location_at t u) s.location (e ∙ ap (location_at t) (sym s.locations));
          task = s.task;
        };
        locations_long = length-set r.location r.locations l ∙ holds.locations_long;
        tasks_long = holds.tasks_long;
      }

  one_task : (k : Task) → i < 32 → k ≡ task_at t i → Holds t v (suc i) (with_task r k)
  one_task k h e =
      let s = holds.same in
      record {
        same = record {
          version = s.version;
          queues = s.queues;
          period = s.period;
          locations = s.locations;
          tasks = omega (arith, s.tasks);
          location = s.location;
          task = each_stored r.task r.tasks k no_task (omega (arith, s.tasks, holds.tasks_long)) (λ j x. x ≡ task_at t j) s.task (e ∙ ap (task_at t) (sym s.tasks));
        };
        locations_long = holds.locations_long;
        tasks_long = length-set r.task r.tasks k ∙ holds.tasks_long;
      }

  all_held : v ≡ t.locations → i ≡ t.tasks → Same r t
  all_held e f =
      let s = holds.same in
      record {
        version = s.version;
        queues = s.queues;
        period = s.period;
        locations = s.locations ∙ e;
        tasks = s.tasks ∙ f;
        location = s.location;
        task = s.task;
      }

-- ---- all fields

-- where the field after v locations and i tasks begins
abbrev offset_after : ℕ → ℕ → ℕ
offset_after v i = location_offset v + 10 * i

-- an answer that accepts the table
abbrev IsRead : Table → ReadAnswer → Type 0
IsRead t a = (u : Table) × (a ≡ accepted u) × Same u t

read_along : (t : Table) (a b : ReadAnswer) → a ≡ b → IsRead t b → IsRead t a
read_along t a b e h = (h.0, e ∙ h.1, h.2)

module _ (t : Table) (w : InWidth t) (locations-fit : t.locations ≤ 128) (tasks-fit : t.tasks ≤ 32) where
  next_location : (k v i : ℕ) (r : Table) → Holds t v i r → v < t.locations → i ≡ 0
      → (u : Table) × (fields_from (suc k) (record_of t) (offset_after v i) r ≡ fields_from k (record_of t) (offset_after (suc v) i) u) × Holds t (suc v) i u
  next_location k v i r h l z =
      let s = record_of t in
      let here : drop (offset_after v i) s ≡ location_field (location_at t v) ++ drop (location_offset (suc v)) s = ap (λ n. drop n s) (first_place z) ∙ location_at_law t v l in
      let y = and_both (is_field s (offset_after v i) 2 9) (eqb r.tasks 0) (field_there s (offset_after v i) 2 9 _ here) (eqb_of r.tasks 0 (h.same.tasks ∙ z)) in
      let n = location_number s (offset_after v i) r.locations r.tasks y (omega (arith, h.same.locations)) (omega (arith, length_record t)) in
      let e = ap location_of (payload_there s (offset_after v i) 2 9 _ here) ∙ location_back (location_at t v) (drop (location_offset (suc v)) s) (w.location v l) in
      let u = with_location r (location_of (drop (offset_after v i + 3) s)) in (
        u,
        location_read (suc k) k s (offset_after v i) r refl (omega (arith, length_record t)) n y ∙ ap (λ x. fields_from k s x u) (on z),
        one_location t v i r h (location_of (drop (offset_after v i + 3) s)) (omega arith) e,
      )
    where
      first_place : i ≡ 0 → offset_after v i ≡ location_offset v
      first_place z = omega arith

      on : i ≡ 0 → offset_after v i + 12 ≡ offset_after (suc v) i
      on z = omega arith

  next_task : (k v i : ℕ) (r : Table) → Holds t v i r → v ≡ t.locations → 0 < v → i < t.tasks
      → (u : Table) × (fields_from (suc k) (record_of t) (offset_after v i) r ≡ fields_from k (record_of t) (offset_after v (suc i)) u) × Holds t v (suc i) u
  next_task k v i r h z some l =
      let s = record_of t in
      let here : drop (offset_after v i) s ≡ task_field (task_at t i) ++ drop (task_offset t (suc i)) s = ap (λ n. drop (offset_after n i) s) z ∙ task_at_law t i l in
      let tag = tag_is s (offset_after v i) 3 7 _ here in
      let x = no_location_law s (offset_after v i) r.tasks tag in
      let y = and_both (is_field s (offset_after v i) 3 7) (ltb 0 r.locations) (field_there s (offset_after v i) 3 7 _ here) (lt→ltb 0 r.locations (omega (arith, h.same.locations))) in
      let n = task_number s (offset_after v i) r.locations r.tasks x y (omega (arith, h.same.tasks)) (omega (arith, length_record t)) in
      let e = ap task_of (payload_there s (offset_after v i) 3 7 _ here) ∙ task_back (task_at t i) (drop (task_offset t (suc i)) s) (w.task i l) in
      let u = with_task r (task_of (drop (offset_after v i + 3) s)) in (
        u,
        task_read (suc k) k s (offset_after v i) r refl (omega (arith, length_record t)) n x ∙ ap (λ x. fields_from k s x u) on,
        one_task t v i r h (task_of (drop (offset_after v i + 3) s)) (omega arith) e,
      )
    where
      on : offset_after v i + 10 ≡ offset_after v (suc i)
      on = omega arith

      no_location_law : (s : List ℕ) (at m : ℕ) → get_or s at 0 ≡ 3 → T (not (is_location s at m))
      no_location_law s at m e =
          and_fails_left (is_field s at 2 9) (eqb m 0)
          (and_fails_left (eqb (get_or s at 0) 2) (eqb (number16 (drop (at + 1) s)) 9) (neqb_of (get_or s at 0) 2 (omega arith)))

  -- locations while there are any, then tasks
  reads_on : (k v i : ℕ) (r : Table) → 0 < t.locations → t.locations - v + (t.tasks - i) < k → v ≤ t.locations → i ≤ t.tasks → (v < t.locations → i ≡ 0) → Holds t v i r
      → IsRead t (fields_from k (record_of t) (offset_after v i) r)
  reads_on zero v i r some f a b c h = absurd (omega arith)
  reads_on (suc k) v i r some f a b c h = elim (le_or_lt t.locations v) [
    | inr g ↦
        let (u, e, p) = next_location k v i r h g (c g) in
        read_along t _ _ e (reads_on k (suc v) i u some (omega arith) g b (λ m. c g) p)
    | inl g ↦ elim (le_or_lt t.tasks i) [
      | inr m ↦
          let (u, e, p) = next_task k v i r h (omega arith) (omega arith) m in
          read_along t _ _ e (reads_on k v (suc i) u some (omega arith) a m (λ n. absurd (omega arith)) p)
      | inl m ↦ (
        r,
        end_read (suc k) k (record_of t) (offset_after v i) r refl (omega (arith, length_record t)) (omega (arith, h.same.locations)),
        all_held t v i r h (omega arith) (omega arith),
      )
    ]
  ]

  header_held : Holds t 0 0 (header_of (drop 3 (record_of t)))
  header_held =
      let e = ap (drop 3) (record_rows t) in
      let b = header_back t [] w.period in
      record {
        same = record {
          version = ap (λ (s : List ℕ). (header_of s).version) e ∙ b.0;
          queues = ap (λ (s : List ℕ). (header_of s).queues) e ∙ b.1;
          period = ap (λ (s : List ℕ). (header_of s).period) e ∙ b.2;
          locations = refl;
          tasks = refl;
          location = λ v l. absurd (omega arith);
          task = λ i l. absurd (omega arith);
        };
        locations_long = length-replicate 128 no_location;
        tasks_long = length-replicate 32 no_task;
      }

  is_read : 1 ≤ t.locations → IsRead t (fields_of (record_of t))
  is_read some =
      let s = record_of t in
      let n = header_number_law s (field_there s 0 1 4 _ (record_rows t)) (omega (arith, length_record t)) in
      read_along t _ _ (header_fine s n) (reads_on most_fields 0 0 (header_of (drop 3 s)) some (omega arith) (omega arith) (omega arith) (λ l. refl) header_held)

pub written_reads : (t : Table) → InWidth t → 1 ≤ t.locations → t.locations ≤ 128 → t.tasks ≤ 32
    → ((fields_of (record_of t)).refusal ≡ fine) × Same (fields_of (record_of t)).table t
written_reads t w some n m =
    let (u, e, same) = is_read t w n m some in
    (ap (λ (a : ReadAnswer). a.refusal) e, subst (λ (a : ReadAnswer). Same a.table t) (sym e) same)
