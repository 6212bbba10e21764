-- A search upwards for what breaks a rule gives the rule's refusal, and a refusal of number 0 says that nothing breaks it. Assumes nothing.
use mathlib.Core.Path.{◌≡◌, refl, sym, ap}
use mathlib.Core.Bool.{Bool, true, false, not}
use Prim.Native.Nat.{ℕ, ◌+◌, ◌≤◌, ◌<◌, zero-le}
use native.Mathlib.Omega.{arith}
use lib.Dec.{T}
use borrow.Author.Count.{below_more}
use Rattle.laws.specs.Found.{Found, nobody, at, first}
use Rattle.laws.proofs.First.{first_found, first_none}
use Rattle.laws.proofs.Cases.{of_true, of_false}
use Rattle.table.specs.declared.Refusal.{Refusal}
use Rattle.table.specs.declared.Table.{Table}
use Rattle.table.specs.Rules.{breaks_shape, breaks_gap, breaks_overlap, breaks_period, refusal, fine, refuse, found_if, lowest_location, location_place}
use Rattle.table.specs.Columns.{judged_tree}

-- ---- the search

-- of n, none below v breaks the rule
pub record Kept (breaks : ℕ → Bool) (n v : ℕ) : Type 0 where
  pub within : v ≤ n
  pub each : (i : ℕ) → i < v → T (not (breaks i))

module _ {breaks : ℕ → Bool} {n : ℕ} where
  pub kept_none : Kept breaks n 0
  kept_none = record { within = zero-le; each = λ i l. absurd (omega arith) }

  pub kept_more : {v : ℕ} → Kept breaks n v → v < n → breaks v ≡ false → Kept breaks n (v + 1)
  kept_more {v} h l e = record { within = omega arith; each = below_more _ v h.each (of_false (breaks v) e) }

  module _ (number : ℕ) (place : ℕ → ℕ) {v : ℕ} (kept : Kept breaks n v) where
    pub lowest_found : v < n → breaks v ≡ true → refusal number (place v) ≡ refuse number place (first breaks 0 n) fine
    lowest_found l e =
        sym (ap (λ o. refuse number place o fine) (first_found breaks 0 n v zero-le (omega arith) (of_true (breaks v) e) (λ i a b. kept.each i b)))

    pub lowest_none : n ≤ v → fine ≡ refuse number place (first breaks 0 n) fine
    lowest_none l = sym (ap (λ o. refuse number place o fine) (first_none breaks 0 n (λ i a b. kept.each i (omega arith))))

-- ---- one rule after the other

module _ (number : ℕ) (place : ℕ → ℕ) (r : Refusal) where
  -- a refusal with a number stands, whatever the later rules say
  pub refused : (o : Found) (next : Refusal) → r ≡ refuse number place o fine → (r.number ≡ 0 → ⊥) → r ≡ refuse number place o next
  refused nobody next e n = absurd (n (ap (λ (x : Refusal). x.number) e))
  refused (at v) next e n = e

  -- number 0 hands on to them
  pub passed : (o : Found) → 0 < number → r ≡ refuse number place o fine → r.number ≡ 0 → o ≡ nobody
  passed nobody p e z = refl
  passed (at v) p e z = absurd (omega (arith, ap (λ (x : Refusal). x.number) e))

-- ---- a rule of the whole table

pub if_refused : (number : ℕ) (broken : Bool) (next : Refusal) → broken ≡ true → refusal number 0 ≡ refuse number (λ v. 0) (found_if broken) next
if_refused number broken next e = rw e

pub if_kept : (number : ℕ) (broken : Bool) (next : Refusal) → broken ≡ false → next ≡ refuse number (λ v. 0) (found_if broken) next
if_kept number broken next e = rw e

-- ---- the four rules of the tree in a row

abbrev row : Found → Found → Found → Found → Refusal → Refusal
row a b c d next = refuse 5 location_place a (refuse 6 location_place b (refuse 7 location_place c (refuse 8 location_place d next)))

row_refused : (a b c d : Found) (r next : Refusal) → r ≡ row a b c d fine → (r.number ≡ 0 → ⊥) → r ≡ row a b c d next
row_refused (at v) b c d r next e n = e
row_refused nobody (at v) c d r next e n = e
row_refused nobody nobody (at v) d r next e n = e
row_refused nobody nobody nobody (at v) r next e n = e
row_refused nobody nobody nobody nobody r next e n = absurd (n (ap (λ (x : Refusal). x.number) e))

row_kept : (a b c d : Found) (r next : Refusal) → r ≡ row a b c d fine → r.number ≡ 0 → next ≡ row a b c d next
row_kept (at v) b c d r next e z = absurd (omega (arith, ap (λ (x : Refusal). x.number) e))
row_kept nobody (at v) c d r next e z = absurd (omega (arith, ap (λ (x : Refusal). x.number) e))
row_kept nobody nobody (at v) d r next e z = absurd (omega (arith, ap (λ (x : Refusal). x.number) e))
row_kept nobody nobody nobody (at v) r next e z = absurd (omega (arith, ap (λ (x : Refusal). x.number) e))
row_kept nobody nobody nobody nobody r next e z = refl

module _ (t : Table) (r next : Refusal) where
  pub tree_refused : r ≡ judged_tree t fine → (r.number ≡ 0 → ⊥) → r ≡ judged_tree t next
  tree_refused = row_refused (lowest_location t breaks_shape) (lowest_location t breaks_gap) (lowest_location t breaks_overlap) (lowest_location t breaks_period) r next

  pub tree_kept : r ≡ judged_tree t fine → r.number ≡ 0 → next ≡ judged_tree t next
  tree_kept = row_kept (lowest_location t breaks_shape) (lowest_location t breaks_gap) (lowest_location t breaks_overlap) (lowest_location t breaks_period) r next
