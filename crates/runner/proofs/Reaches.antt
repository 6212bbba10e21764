-- Any walk and any releases that the theory accepts are those of accepted steps: a location's variable is one of eight, and a table has at most 32 tasks.
-- Assumes nothing.
use mathlib.Core.Path.{◌≡◌, refl, sym, ap, ◌∙◌, subst}
use mathlib.Core.Bool.{Bool}
use mathlib.Core.Logic.{inl, inr}
use mathlib.Core.List.{List}
use Prim.Native.Nat.{ℕ, zero, suc, ◌≤◌, ◌<◌}
use native.Mathlib.Nat.{lt_of_lt_of_le}
use native.Mathlib.Omega.{arith}
use lib.ListN.{replicate, get_or-eq_default}
use lib.Dec.{T, not_T, ltb}
use lib.Pow.{pow_mono}
use Rattle.laws.specs.Test.{pick}
use Rattle.laws.specs.Up.{up_to}
use Rattle.laws.specs.Bits.{set_of}
use Rattle.laws.proofs.Test.{le_or_lt}
use Rattle.laws.proofs.Up.{up_at, up_later}
use Rattle.laws.proofs.Bits.{set_small, in_set_of, in_set_past}
use Rattle.laws.proofs.Cases.{is_false}
use Rattle.theory.specs.Tree.{Position, grant}
use Rattle.theory.specs.Guards.{top, onto, move, walk}
use Rattle.theory.specs.Steps.{edf, Accepted}
use Rattle.table.specs.declared.Table.{Table}
use Rattle.table.specs.declared.Refusal.{Refusal}
use Rattle.table.specs.Table.{tree_of, tasks_of}
use Rattle.table.specs.Rules.{fine, judged, WellFormed}
use Rattle.table.specs.Ranged.{Ranged}
use Rattle.runner.specs.Step.{value_at}
use Rattle.runner.specs.History.{walked, releases, service, Reached}
use Rattle.runner.proofs.Refusals.{well_formed, fresh_judged}
use Rattle.runner.proofs.Grants.{walk_stands}
use Rattle.runner.proofs.Follows.{goes_on}

-- ---- eight values

listed : (ℕ → ℕ) → List ℕ
listed f = up_to f 8 (replicate 8 0)

listed_at : (f : ℕ → ℕ) (i : ℕ) → i < 8 → value_at (listed f) i ≡ f i
unfolding listed
listed_at f i l = up_at f 0 8 i (replicate 8 0) l (omega arith)

listed_small : (f : ℕ → ℕ) → ((i : ℕ) → f i ≤ top) → (i : ℕ) → value_at (listed f) i ≤ top
unfolding listed
listed_small f small i = elim (le_or_lt 8 i) [
  | inl l ↦ omega (arith, up_later f 0 8 i (replicate 8 0) l, get_or-eq_default {A = ℕ} (replicate 8 0) 0 {n = i} l)
  | inr l ↦ omega (arith, listed_at f i l, small i)
]

abbrev lists : (ℕ → ℕ → ℕ) → ℕ → List ℕ
lists values n = listed (values n)

module _ (t : Table) (w : WellFormed t) (values : ℕ → ℕ → ℕ) where
  move_listed : (n : ℕ) (p : Position) → p.location < t.locations → move (tree_of t) (value_at (lists values n)) p ≡ move (tree_of t) (values n) p
  move_listed n p l =
      let v = p.location in
      let stays = ltb (suc p.done) ((tree_of t).ticks v) in
      let e = listed_at (values n) ((tree_of t).variable v) (omega (arith, w.variable v l)) in
      λ i. record { location = pick stays v (onto (tree_of t) v (e i)); done = pick stays (suc p.done) 0 }

  walk_listed : (n : ℕ) → walked t (lists values) n ≡ walk (tree_of t) values n
  unfolding walk
  walk_listed zero = refl
  walk_listed (suc n) = move_listed n (walked t (lists values) n) (walk_stands t w (lists values) n).0 ∙ ap (move (tree_of t) (values n)) (walk_listed n)

-- ---- a set of 32

abbrev sets : Table → (ℕ → ℕ → Bool) → ℕ → ℕ
sets t r n = set_of (r n) t.tasks

sets_are : (t : Table) (r : ℕ → ℕ → Bool) → ((n i : ℕ) → T (r n i) → i < t.tasks) → (n i : ℕ) → releases (sets t r) n i ≡ r n i
sets_are t r known n i = elim (le_or_lt t.tasks i) [
  | inl l ↦ in_set_past (sets t r n) t.tasks i (set_small (r n) t.tasks) l ∙ sym (is_false (r n i) (not_T (r n i) (λ y. omega (arith, known n i y))))
  | inr l ↦ in_set_of (r n) t.tasks i l
]

-- ---- the steps

pub reaches : (t : Table) → Ranged t → judged t ≡ fine → (values : ℕ → ℕ → ℕ) → ((n i : ℕ) → values n i ≤ top) → (r : ℕ → ℕ → Bool)
    → Accepted (tasks_of t) r (edf (tasks_of t) (λ n. grant (tree_of t) (walk (tree_of t) values n))) → Reached t values r
reaches t ranged fits values small r accepted = record {
  lists = lists values;
  sets = sets t r;
  inputs = record { value = λ n. listed_small (values n) (small n); set = λ n. lt_of_lt_of_le (set_small (r n) t.tasks) (pow_mono {j = 32} w.tasks) };
  history = λ N. goes_on t ranged (lists values) (sets t r) (fresh_judged t ∙ fits) N (λ n i l y. carried n i y);
  walks = same_walk;
  releases_are = same_releases;
}
  where
    w : WellFormed t
    w = well_formed t ranged (ap (λ (x : Refusal). x.number) fits)

    same_walk : walked t (lists values) ≡ walk (tree_of t) values
    same_walk = λ i n. walk_listed t w values n i

    same_releases : releases (sets t r) ≡ r
    same_releases = λ k n i. sets_are t r (λ n i y. (accepted n i y).0) n i k

    carried : Accepted (tasks_of t) (releases (sets t r)) (service t (lists values))
    carried =
        subst (λ x. Accepted (tasks_of t) x (service t (lists values))) (sym same_releases)
        (subst (λ x. Accepted (tasks_of t) r (edf (tasks_of t) (λ n. grant (tree_of t) (x n)))) (sym same_walk) accepted)
