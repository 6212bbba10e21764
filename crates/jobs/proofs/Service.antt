-- A pass over the tasks that keeps the number of the one with the least key keeps the best, also where it is told by a flag, its number
-- and its key. Assumes nothing.
use Rattle.std.proofs.Common.{◌≡◌, refl, sym, ap₂, ◌∙◌, subst, ℕ, ◌≤◌, ◌<◌, Bool, true, false, not, ◌&&◌, ◌||◌, Some, option_map, is_some, unwrap_or, arith}
use lib.Dec.{ltb}
use Rattle.laws.specs.Found.{Found, nobody, at, found, better, best, IsBest}
use Rattle.laws.proofs.Best.{best_is}
use Rattle.job.specs.declared.Job.{Job as Entry}
use Rattle.job.specs.Entry.{beats}
use Rattle.jobs.specs.Entries.{choice_of, chosen_by}

pub found_yes : (b : Bool) (n : ℕ) (o : Found) → b ≡ true → found b n o ≡ at n
found_yes b n o e = rw e

pub found_no : (b : Bool) (n : ℕ) (o : Found) → b ≡ false → found b n o ≡ o
found_no b n o e = rw e

and_true : (a b : Bool) → (a && b) ≡ true → a ≡ true
and_true true b e = refl
and_true false b e = e

and_true_right : (a : Bool) → (a && true) ≡ false → a ≡ false
and_true_right true e = e
and_true_right false e = refl

module _ (p : ℕ → Bool) (key : ℕ → ℕ) where
  -- what the pass knows of the one found so far
  abbrev pub Told : Found → Bool → ℕ → ℕ → Type 0
  Told nobody some task least = (some ≡ false) × (task ≡ 0)
  Told (at j) some task least = (some ≡ true) × (task ≡ j) × (least ≡ key j)

  -- number n comes first
  abbrev pub sooner : ℕ → Bool → ℕ → Bool
  sooner n some least = p n && (not some || ltb (key n) least)

  pub told_yes : (n : ℕ) (o : Found) (some : Bool) (task least : ℕ) → Told o some task least → sooner n some least ≡ true → Told (better p key n o) true n (key n)
  told_yes n nobody some task least h e = subst (λ o. Told o true n (key n)) (sym (found_yes (p n) n nobody (and_true (p n) _ e))) (refl, refl, refl)
  told_yes n (at j) some task least h e =
      let y : (p n && ltb (key n) (key j)) ≡ true = ap₂ (sooner n) (sym h.0) (sym h.2) ∙ e in
      subst (λ o. Told o true n (key n)) (sym (found_yes (p n && ltb (key n) (key j)) n (at j) y)) (refl, refl, refl)

  pub told_no : (n : ℕ) (o : Found) (some : Bool) (task least : ℕ) → Told o some task least → sooner n some least ≡ false → Told (better p key n o) some task least
  told_no n nobody some task least h e =
      let y : (p n && true) ≡ false = ap₂ (sooner n) (sym h.0) refl ∙ e in
      subst (λ o. Told o some task least) (sym (found_no (p n) n nobody (and_true_right (p n) y))) h
  told_no n (at j) some task least h e =
      let y : (p n && ltb (key n) (key j)) ≡ false = ap₂ (sooner n) (sym h.0) (sym h.2) ∙ e in
      subst (λ o. Told o some task least) (sym (found_no (p n && ltb (key n) (key j)) n (at j) y)) h

  -- the flag and the number are the choice's
  pub told_choice : (o : Found) (some : Bool) (task least : ℕ) → Told o some task least → (some ≡ is_some (choice_of o)) × (task ≡ unwrap_or (choice_of o) 0)
  told_choice nobody some task least h = (h.0, h.1)
  told_choice (at j) some task least h = (h.0, h.1)

-- a choice says what was found
pub says_chosen : (o : Found) → chosen_by (choice_of o) ≡ o
says_chosen nobody = refl
says_chosen (at i) = refl

-- as a flag and a number too
pub says_served : (o : Found) → found (is_some (choice_of o)) (unwrap_or (choice_of o) 0) nobody ≡ o
says_served nobody = refl
says_served (at i) = refl

-- and never names more tasks than there are
pub choice_small : (p : ℕ → Bool) (key : ℕ → ℕ) (n : ℕ) → unwrap_or (choice_of (best p key n)) 0 ≤ n
unfolding IsBest
choice_small p key n = go (best p key n) (best_is p key n)
  where
    go : (o : Found) → IsBest p key n o → unwrap_or (choice_of o) 0 ≤ n
    go nobody h = omega arith
    go (at i) h = omega (arith, h.0)

-- and names one of the tasks
pub chosen_below : (p : ℕ → Bool) (key : ℕ → ℕ) (n i : ℕ) → choice_of (best p key n) ≡ Some i → i < n
unfolding IsBest
chosen_below p key n i = go (best p key n) (best_is p key n)
  where
    go : (o : Found) → IsBest p key n o → choice_of o ≡ Some i → i < n
    go nobody h e = cc
    go (at j) h e = let same : j ≡ i = cc in subst (λ k. k < n) same h.0

module _ (p : ℕ → Bool) (entry : ℕ → Entry) (n : ℕ) where
  -- number n passes, and has less left than the best so far
  abbrev pub takes : Found → Bool
  takes o = p n && beats (entry n) (option_map entry (choice_of o))

  pub takes_yes : (o : Found) → takes o ≡ true → better p (λ i. (entry i).left) n o ≡ at n
  takes_yes nobody e = rw (p_true (p n) e)
    where
      p_true : (b : Bool) → (b && true) ≡ true → b ≡ true
      p_true true e = refl
      p_true false e = e
  takes_yes (at i) e = rw e

  pub takes_no : (o : Found) → takes o ≡ false → better p (λ i. (entry i).left) n o ≡ o
  takes_no nobody e = rw (p_false (p n) e)
    where
      p_false : (b : Bool) → (b && true) ≡ false → b ≡ false
      p_false true e = e
      p_false false e = refl
  takes_no (at i) e = rw e
