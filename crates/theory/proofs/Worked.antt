-- The worked list: the bounds of A and B, the wait and the verdicts are computed, and what is computed is what the rules
-- mean. Assumes nothing.
use mathlib.Core.Path.{◌≡◌, refl, subst}
use Prim.Native.Nat.{ℕ, zero, suc, ◌≤◌, ◌<◌}
use native.Mathlib.Omega.{arith}
use Rattle.laws.specs.Test.{none}
use Rattle.laws.specs.Sum.{sum}
use Rattle.laws.specs.Minimum.{minimum}
use Rattle.laws.specs.Found.{nobody, at, first}
use Rattle.laws.specs.Climb.{climb}
use Rattle.theory.specs.Grants.{is}
use Rattle.theory.specs.Bounds.{Least, Most}
use Rattle.theory.specs.Tree.{Leaf, end, Formed, grants}
use Rattle.theory.specs.Task.{LawfulTask, Each}
use Rattle.theory.specs.Search.{times, lcm_to, verdict, VerdictSays, wait, WaitSays}
use Rattle.theory.specs.Cycles.{system, least_of, most_of}
use Rattle.theory.specs.Worked.{A, B, one, Worked}
use Rattle.theory.proofs.Runs.{tree_least, tree_most}
use Rattle.theory.proofs.Wait.{wait_is}
use Rattle.theory.proofs.Verdict.{verdict_is}

a_formed : Formed A
unfolding none climb
a_formed = record { root = omega arith; falls = falls; spends = spends; whole = whole }
  where
    falls : (v : ℕ) → 0 < v → v < 3 → A.parent v < v
    falls zero z s = absurd (omega arith)
    falls (suc zero) z s = omega arith
    falls (suc (suc zero)) z s = omega arith
    falls (suc (suc (suc v))) z s = absurd (omega arith)

    spends : (v : ℕ) → v < 3 → 1 ≤ A.ticks v
    spends zero s = omega arith
    spends (suc zero) s = omega arith
    spends (suc (suc zero)) s = omega arith
    spends (suc (suc (suc v))) s = absurd (omega arith)

    whole : (v : ℕ) → Leaf A v → end A v ≡ 4
    whole zero (s, l) = absurd l
    whole (suc zero) l = refl
    whole (suc (suc zero)) l = refl
    whole (suc (suc (suc v))) (s, l) = absurd (omega arith)

b_formed : Formed B
unfolding none climb
b_formed = record { root = omega arith; falls = falls; spends = spends; whole = whole }
  where
    falls : (v : ℕ) → 0 < v → v < 5 → B.parent v < v
    falls zero z s = absurd (omega arith)
    falls (suc zero) z s = omega arith
    falls (suc (suc zero)) z s = omega arith
    falls (suc (suc (suc zero))) z s = omega arith
    falls (suc (suc (suc (suc zero)))) z s = omega arith
    falls (suc (suc (suc (suc (suc v))))) z s = absurd (omega arith)

    spends : (v : ℕ) → v < 5 → 1 ≤ B.ticks v
    spends zero s = omega arith
    spends (suc zero) s = omega arith
    spends (suc (suc zero)) s = omega arith
    spends (suc (suc (suc zero))) s = omega arith
    spends (suc (suc (suc (suc zero)))) s = omega arith
    spends (suc (suc (suc (suc (suc v))))) s = absurd (omega arith)

    whole : (v : ℕ) → Leaf B v → end B v ≡ 5
    whole zero (s, l) = absurd l
    whole (suc zero) (s, l) = absurd l
    whole (suc (suc zero)) (s, l) = absurd l
    whole (suc (suc (suc zero))) l = refl
    whole (suc (suc (suc (suc zero)))) l = refl
    whole (suc (suc (suc (suc (suc v))))) (s, l) = absurd (omega arith)

one_lawful : (D : ℕ) → 1 ≤ D → D ≤ 4 → Each (one D) 1 (λ i. LawfulTask ((one D).task i))
one_lawful D a b i l y = record { some_work = omega arith; fits = omega arith; constrained = omega arith }

-- from what is computed to what it means
a_least : (w m : ℕ) → least_of (system A) (is 1) w ≡ m → Least (grants A) (is 1) w m
a_least w m e = subst (Least (grants A) (is 1) w) e (tree_least A a_formed (is 1) w)

a_most : (w m : ℕ) → most_of (system A) (is 2) w ≡ m → Most (grants A) (is 2) w m
a_most w m e = subst (Most (grants A) (is 2) w) e (tree_most A a_formed (is 2) w)

b_least : (w m : ℕ) → least_of (system B) (is 1) w ≡ m → Least (grants B) (is 1) w m
b_least w m e = subst (Least (grants B) (is 1) w) e (tree_least B b_formed (is 1) w)

pub worked : Worked
unfolding sum minimum first none climb times lcm_to VerdictSays WaitSays
worked = record {
  a_least_3 = a_least 3 0 refl;
  a_least_4 = a_least 4 1 refl;
  a_least_7 = a_least 7 1 refl;
  a_least_8 = a_least 8 2 refl;
  a_most_4 = a_most 4 3 refl;
  a_most_5 = a_most 5 4 refl;
  b_least_5 = b_least 5 0 refl;
  b_least_6 = b_least 6 1 refl;
  b_least_7 = b_least 7 2 refl;
  b_least_11 = b_least 11 3 refl;
  a_wait_2 = subst (WaitSays A (is 1) 2) {x = wait A (is 1) 2} {y = at 8} refl (wait_is A a_formed (is 1) 2);
  a_meets = subst (VerdictSays A (one 4) 1) {x = verdict A (one 4) 1} {y = nobody} refl (verdict_is A a_formed (one 4) 1 (one_lawful 4 (omega arith) (omega arith)));
  a_short = subst (VerdictSays A (one 3) 1) {x = verdict A (one 3) 1} {y = at 3} refl (verdict_is A a_formed (one 3) 1 (one_lawful 3 (omega arith) (omega arith)));
}
