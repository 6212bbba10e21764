-- The verdict: demand adds over a common multiple of the gaps and the least supply adds at least as much, so what holds up
-- to the multiple holds with no upper end, and the search up to there decides. Assumes nothing.
use mathlib.Core.Path.{◌≡◌, refl, ap, subst}
use mathlib.Core.Bool.{not}
use mathlib.Core.Logic.{inl, inr}
use Prim.Native.Nat.{ℕ, zero, suc, ◌+◌, ◌-◌, ◌≤◌}
use native.Mathlib.Nat.{le_refl}
use native.Mathlib.Omega.{arith}
use lib.Dec.{T, ltb→lt, nltb→le}
use Rattle.laws.specs.Found.{Found, nobody, at, IsFirst}
use Rattle.laws.proofs.Test.{le_or_lt}
use Rattle.laws.proofs.First.{first_is}
use Rattle.theory.specs.Grants.{is}
use Rattle.theory.specs.Bounds.{Streams, Least}
use Rattle.theory.specs.Tree.{Tree, Formed, grants}
use Rattle.theory.specs.Task.{Tasks, LawfulTask, Each, demand}
use Rattle.theory.specs.Verdict.{Meets, Short, Multiple, CommonMultiple}
use Rattle.theory.specs.Cycles.{system, least_of}
use Rattle.theory.specs.Search.{lacks, horizon, verdict, VerdictSays}
use Rattle.theory.proofs.Bounds.{least_unique, least_adds}
use Rattle.theory.proofs.Paths.{some_tick}
use Rattle.theory.proofs.Runs.{tree_least}
use Rattle.theory.proofs.Demand.{lawful_gap, demand_adds}
use Rattle.theory.proofs.Multiple.{lcm_of_is}

-- ---- over any set of streams that has a least for every window

module _ (G : Streams) (ts : Tasks) (q : ℕ) (lawful : Each ts q (λ i. LawfulTask (ts.task i))) (some : (w : ℕ) → (m : ℕ) × Least G (is q) w m) where
  -- M is a common multiple of the gaps
  pub meets_far : (M : ℕ) → 1 ≤ M → Each ts q (λ i. Multiple M (ts.task i).gap)
      → ((w m : ℕ) → 1 ≤ w → w ≤ M → Least G (is q) w m → demand ts q w ≤ m) → Meets G ts q
  meets_far M M-some multiple below w = go w w (le_refl w)
    where
      go : (k w : ℕ) → w ≤ k → (m : ℕ) → 1 ≤ w → Least G (is q) w m → demand ts q w ≤ m
      go zero w f m h l = absurd (omega arith)
      go (suc k) w f m h l = elim (le_or_lt w M) [
        | inl y ↦ below w m h y l
        | inr y ↦
            let (a, x) = some (w - M) in
            let (b, z) = some M in
            let e : w ≡ w - M + M = omega arith in
            omega (
              arith,
              go k (w - M) (omega arith) a (omega arith) x,
              below M b M-some (le_refl M) z,
              least_adds G (w - M) M x z (subst (λ v. Least G (is q) v m) e l),
              demand_adds ts q lawful M (w - M) multiple,
              ap (demand ts q) e,
            )
      ]

-- a verdict rules the other out
pub not_both : (G : Streams) (ts : Tasks) (q w d s : ℕ) → Meets G ts q → Short G ts q w d s → ⊥
not_both G ts q w d s meets short = absurd (omega (arith, meets w s short.some short.supplies, short.demands, short.exceeds))

-- the shortest window, its demand and its supply are determined
pub short_unique : (G : Streams) (ts : Tasks) (q w d s w' d' s' : ℕ) → Short G ts q w d s → Short G ts q w' d' s' → (w ≡ w') × (d ≡ d') × (s ≡ s')
short_unique G ts q w d s w' d' s' a b =
    let e : w ≡ w' = elim (le_or_lt w w') [
      | inl h ↦ elim (le_or_lt w' w) [
        | inl g ↦ omega arith
        | inr g ↦ absurd (omega (arith, b.shortest w s a.some g a.supplies, a.demands, a.exceeds))
      ]
      | inr h ↦ absurd (omega (arith, a.shortest w' s' b.some h b.supplies, b.demands, b.exceeds))
    ] in (
      e,
      omega (arith, a.demands, b.demands, ap (demand ts q) e),
      least_unique G (subst (λ v. Least G (is q) v s) e a.supplies) b.supplies,
    )

-- ---- over a tree

module _ (t : Tree) (formed : Formed t) (ts : Tasks) (q : ℕ) (lawful : Each ts q (λ i. LawfulTask (ts.task i))) where
  abbrev least : ℕ → ℕ
  least w = least_of (system t) (is q) w

  fine : (w m : ℕ) → T (not (lacks least ts q w)) → Least (grants t) (is q) w m → demand ts q w ≤ m
  fine w m n l = omega (arith, nltb→le (least w) (demand ts q w) n, least_unique (grants t) l (tree_least t formed (is q) w))

  pub verdict_is : VerdictSays t ts q (verdict t ts q)
  unfolding VerdictSays IsFirst
  verdict_is = go (verdict t ts q) (first_is (lacks least ts q) 1 (horizon t ts q))
    where
      L : CommonMultiple ts q t.period (horizon t ts q)
      L = lcm_of_is ts q t.period (some_tick t formed) (λ i l y. lawful_gap (ts.task i) (lawful i l y))

      go : (o : Found) → IsFirst (lacks least ts q) 1 (horizon t ts q) o → VerdictSays t ts q o
      go (at w) h = record {
        some = h.0;
        demands = refl;
        supplies = tree_least t formed (is q) w;
        exceeds = ltb→lt (least w) (demand ts q w) h.2;
        shortest = λ v m a b. fine v m (h.3 v a b);
      }
      go nobody h =
          meets_far (grants t) ts q lawful (λ w. (least w, tree_least t formed (is q) w)) (horizon t ts q) L.some L.of_gaps
          (λ w m a b. fine w m (h w a (omega arith)))
