-- The look for a child: a leaf's number is nobody's parent, and one location more makes a leaf no leaf where it names the leaf as its
-- parent. Assumes nothing.
use Rattle.std.proofs.Common.{◌≡◌, refl, sym, ◌∙◌, ap, Bool, true, false, not, ◌&&◌, List, ℕ, ◌+◌, ◌-◌, ◌≤◌, ◌<◌, length, add-one, arith, inl, inr}
use Rattle.std.proofs.Math.ListN.{get_or, drop}
use Rattle.std.specs.List.{slice_range, IsAnyAnswer}
use Rattle.std.proofs.lemmas.List.{get_or-take, get_or-drop, length-take-le, length-drop}
use lib.Dec.{T, eqb, ltb}
use borrow.Author.Tests.{lt-ltb, eq-eqb, ne_eqb}
use Rattle.laws.specs.Test.{none}
use Rattle.laws.proofs.Test.{le_or_lt, none_not, none_all}
use Rattle.laws.proofs.Cases.{is_true, is_false, of_true, of_false}
use Rattle.table.specs.Columns.{entry, leaf_over}

module _ (p q : ℕ → Bool) (xs : List ℕ) (a n : ℕ) (l : n ≤ length xs) (from : (i : ℕ) → i < n → a ≤ i → p i ≡ q (get_or xs i 0)) where
  long : length (slice_range xs a n) ≡ n - a
  long = length-take-le (n - a) (drop a xs) (rw (length-drop a xs) (omega arith))

  -- the range's entry i
  entry_in : (i : ℕ) → i < n - a → get_or (slice_range xs a n) i 0 ≡ get_or xs (a + i) 0
  entry_in i h = get_or-take (n - a) (drop a xs) i 0 h ∙ get_or-drop a xs i 0

  -- a test that nothing below a passes: whether none passes, by a look at the entries from a on
  pub any_none : (b : Bool) → ((i : ℕ) → i < n → i < a → T (not (p i))) → IsAnyAnswer (λ y r. q y ≡ r) (slice_range xs a n) b → not b ≡ none p n
  any_none true under h =
      let m : h.0 < n - a = rw long at h.1 in
      let e : p (a + h.0) ≡ true = from (a + h.0) (omega arith) (omega arith) ∙ (ap q (sym (entry_in h.0 m)) ∙ h.2 0) in
      sym (is_false (none p n) (none_not p n (a + h.0) (omega arith) (of_true _ e)))
  any_none false under h = sym (is_true (none p n) (none_all p n each))
    where
      each : (i : ℕ) → i < n → T (not (p i))
      each i m = elim (le_or_lt a i) [
        | inr s ↦ under i m s
        | inl s ↦
            let k : i - a < n - a = omega arith in
            let r : a + (i - a) ≡ i = omega arith in
            let e : q (get_or xs i 0) ≡ false = rw (← r) (ap q (sym (entry_in (i - a) k)) ∙ h (i - a) 0 (omega arith) (rw long k)) in
            of_false _ (from i m s ∙ e)
      ]

-- nobody of 1 to n - 1 names v
pub leaf_unnamed : (parents : List ℕ) (v n : ℕ) (b : Bool) → n ≤ length parents → IsAnyAnswer (λ y r. eqb y v ≡ r) (slice_range parents 1 n) b → not b ≡ leaf_over parents n v
leaf_unnamed parents v n b l = any_none (λ u. ltb 0 u && eqb (entry parents u) v) (λ y. eqb y v) parents 1 n l named b root
  where
    named : (u : ℕ) → u < n → 1 ≤ u → (ltb 0 u && eqb (entry parents u) v) ≡ eqb (entry parents u) v
    named u m s = ap (λ b. b && eqb (entry parents u) v) (lt-ltb 0 u s)

    root : (u : ℕ) → u < n → u < 1 → T (not (ltb 0 u && eqb (entry parents u) v))
    root u m s = let e : u ≡ 0 = omega arith in rw e tt

-- ---- location by location

module _ (parents : List ℕ) (v : ℕ) where
  -- the root is nobody's child
  pub leaf_of_one : leaf_over parents 1 v ≡ true
  unfolding none
  leaf_of_one = refl

  pub leaf_ends : (u : ℕ) → 0 < u → entry parents u ≡ v → leaf_over parents (u + 1) v ≡ false
  unfolding none
  leaf_ends u h e = rw add-one (simp (lt-ltb 0 u h, eq-eqb (entry parents u) v e))

  pub leaf_stays : (u : ℕ) → (entry parents u ≡ v → ⊥) → leaf_over parents (u + 1) v ≡ leaf_over parents u v
  unfolding none
  leaf_stays u n = rw add-one (go (ltb 0 u))
    where
      go : (b : Bool) → (not (b && eqb (entry parents u) v) && leaf_over parents u v) ≡ leaf_over parents u v
      go true = simp (ne_eqb (entry parents u) v n)
      go false = refl
