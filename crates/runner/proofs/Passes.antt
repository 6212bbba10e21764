-- A pass over the numbers of a range says what the search for the first, or for none, says; one over the entries ends at the first that
-- breaks a rule, or finds that none does. Assumes nothing.
use Rattle.std.proofs.Common.{◌≡◌, refl, sym, ap, ◌∙◌, ℕ, zero, suc, ◌+◌, ◌-◌, ◌≤◌, ◌<◌, Bool, true, false, not, cond, Some, inl, inr, add-zero, add-one, arith}
use Rattle.std.specs.List.{range_with_len, list_all, find}
use lib.Dec.{T}
use Rattle.laws.specs.Test.{none}
use Rattle.laws.specs.Found.{found, first}
use Rattle.laws.proofs.Test.{either, le_or_lt, and_both, none_not, none_all}
use Rattle.laws.proofs.Cases.{is_true, is_false, of_true}
use Rattle.judge.proofs.Lowest.{Kept}
use Rattle.jobs.specs.Entries.{choice_of}

module _ (breaks keeps : ℕ → Bool) where
  all_more : (n a : ℕ) → T (none breaks a) → ((i : ℕ) → a ≤ i → breaks i ≡ not (keeps i)) → list_all keeps (range_with_len a n) ≡ none breaks (a + n)
  unfolding none
  all_more zero a t e = rw add-zero (sym (is_true (none breaks a) t))
  all_more (suc n) a t e = elim (either (keeps a)) [
    | inl y ↦
        let kept = is_true (keeps a) y in
        let more : T (none breaks (a + 1)) = rw add-one (and_both (not (breaks a)) (none breaks a) (rw (e a (omega arith), kept) tt) t) in
        rw kept (all_more n (a + 1) more (λ i l. e i (omega arith)) ∙ ap (none breaks) (omega arith))
    | inr y ↦
        let broken = is_false (keeps a) y in
        rw broken (sym (is_false (none breaks (a + suc n)) (none_not breaks (a + suc n) a (omega arith) (rw (e a (omega arith), broken) tt))))
  ]

  -- the rule is kept from a on, and nothing before breaks it
  pub all_keep : (a m : ℕ) → ((i : ℕ) → i < a → T (not (breaks i))) → ((i : ℕ) → a ≤ i → breaks i ≡ not (keeps i)) → list_all keeps (range_with_len a (m - a)) ≡ none breaks m
  all_keep a m before e = elim (le_or_lt a m) [
    | inl l ↦ all_more (m - a) a (none_all breaks a before) e ∙ ap (none breaks) (omega arith)
    | inr l ↦
        let empty : m - a ≡ 0 = omega arith in
        rw empty (sym (is_true (none breaks m) (none_all breaks m (λ i below. before i (omega arith)))))
  ]

-- the first of a range
pub find_first : (p : ℕ → Bool) (a k : ℕ) → find p (range_with_len a k) ≡ choice_of (first p a k)
unfolding first
find_first p a zero = refl
find_first p a (suc k) = rw add-one (go (p a) (find_first p (suc a) k))
  where
    go : (b : Bool) → find p (range_with_len (suc a) k) ≡ choice_of (first p (suc a) k) → cond b (Some a) (find p (range_with_len (suc a) k)) ≡ choice_of (found b a (first p (suc a) k))
    go true e = refl
    go false e = e

-- entry by entry
module _ (breaks : ℕ → Bool) (n i : ℕ) where
  pub one_breaks : i < n → breaks i ≡ true → false ≡ none breaks n
  one_breaks l e = sym (is_false (none breaks n) (none_not breaks n i l (of_true (breaks i) e)))

  pub none_breaks : n ≤ i → Kept breaks n i → true ≡ none breaks n
  none_breaks l h = sym (is_true (none breaks n) (none_all breaks n (λ k m. h.each k (omega arith))))
