-- A loop that writes one entry a turn: the entries from lo to hi are f's, the others are as they were. Assumes nothing.
use mathlib.Core.Path.{◌≡◌, refl, ap, ◌∙◌}
use mathlib.Core.List.{List, ◌++◌}
use mathlib.Core.Logic.{inl, inr}
use Prim.Native.Nat.{ℕ, suc, ◌+◌, ◌-◌, ◌≤◌, ◌<◌, zero-le}
use native.Mathlib.Omega.{arith}
use lib.ListN.{length, set, replicate, take, drop, length-append, length-set, length-replicate, get_or-replicate, get_or-eq_default}
use Rattle.std.proofs.lemmas.List.{length-drop, length-take-le, get_or-drop, get_or_append_left, get_or-append_right}
use lib.Seq.{get_or-set_same, get_or-set_other}
use Rattle.laws.proofs.Test.{le_or_lt}
use Rattle.table.specs.Columns.{entry}
use Rattle.slice.specs.Changes.{Entries, Becomes}

-- the entry that is written
pub set_here : (xs : List ℕ) (k x : ℕ) → k < length xs → entry (set xs k x) k ≡ x
set_here xs k x l = get_or-set_same xs k x 0 l

-- and the others
pub set_there : (xs : List ℕ) (k i x : ℕ) → (i ≡ k → ⊥) → entry (set xs k x) i ≡ entry xs i
set_there xs k i x n = get_or-set_other xs k i x 0 n

-- an array of zeros
pub all_zero : (n i : ℕ) → entry (replicate n 0) i ≡ 0
all_zero n i = elim (le_or_lt n i) [
  | inl h ↦ get_or-eq_default (replicate n 0) 0 (omega (arith, length-replicate {A = ℕ} n 0))
  | inr h ↦ get_or-replicate n i 0 0 h
]

pub record Between (f : ℕ → ℕ) (lo hi : ℕ) (before after : List ℕ) : Type 0 where
  pub long : length after ≡ length before
  pub inside : (i : ℕ) → lo ≤ i → i < hi → entry after i ≡ f i
  pub under : (i : ℕ) → i < lo → entry after i ≡ entry before i
  pub over : (i : ℕ) → hi ≤ i → entry after i ≡ entry before i

module _ (f : ℕ → ℕ) where
  pub between_none : (k : ℕ) (xs : List ℕ) → Between f k k xs xs
  between_none k xs = record { long = refl; inside = λ i a b. absurd (omega arith); under = λ i a. refl; over = λ i a. refl }

  -- one more above, or below
  pub between_more : (lo hi x : ℕ) (xs ys : List ℕ) → lo ≤ hi → hi < length xs → x ≡ f hi → Between f lo hi xs ys → Between f lo (hi + 1) xs (set ys hi x)
  between_more lo hi x xs ys o l e b = record {
    long = simp length-set b.long;
    inside = λ i p q. elim (le_or_lt hi i) [
      | inl a ↦ let d : i ≡ hi = omega arith in rw d (set_here ys hi x (omega (arith, b.long)) ∙ e)
      | inr a ↦ set_there ys hi i x (omega arith) ∙ b.inside i p a
    ];
    under = λ i p. set_there ys hi i x (omega arith) ∙ b.under i p;
    over = λ i p. set_there ys hi i x (omega arith) ∙ b.over i (omega arith);
  }

  pub between_less : (lo k hi x : ℕ) (xs ys : List ℕ) → k ≡ suc lo → lo < hi → lo < length xs → x ≡ f lo → Between f k hi xs ys → Between f lo hi xs (set ys lo x)
  between_less lo k hi x xs ys c o l e b = record {
    long = simp length-set b.long;
    inside = λ i p q. elim (le_or_lt i lo) [
      | inl a ↦ let d : i ≡ lo = omega arith in rw d (set_here ys lo x (omega (arith, b.long)) ∙ e)
      | inr a ↦ set_there ys lo i x (omega arith) ∙ b.inside i (omega arith) q
    ];
    under = λ i p. set_there ys lo i x (omega arith) ∙ b.under i (omega arith);
    over = λ i p. set_there ys lo i x (omega arith) ∙ b.over i p;
  }

  -- one that is f's already
  pub between_one : (k : ℕ) (xs : List ℕ) → entry xs k ≡ f k → Between f k (k + 1) xs xs
  between_one k xs e = record {
    long = refl;
    inside = λ i p q. let d : i ≡ k = omega arith in rw d e;
    under = λ i p. refl;
    over = λ i p. refl;
  }

  pub between_all : (last hi : ℕ) (xs ys : List ℕ) → hi ≡ last + 1 → Between f 0 hi xs ys → Becomes last f xs ys
  between_all last hi xs ys e b = record { long = b.long; each = λ i p. b.inside i zero-le (omega arith); later = λ i p. b.over i (omega arith) }

  pub between_entries : (n hi : ℕ) (xs ys : List ℕ) → n ≤ hi → Between f 0 hi xs ys → Entries n f ys
  between_entries n hi xs ys l b v p = b.inside v zero-le (omega arith)

-- what becomes of a slice whose first n entries are worked on
pub becomes_part : (last n : ℕ) (f : ℕ → ℕ) (xs ys : List ℕ) → n ≡ last + 1 → n ≤ length xs → Becomes last f (take n xs) ys → Becomes last f xs (ys ++ drop n xs)
becomes_part last n f xs ys e l b =
    let h : length ys ≡ n = b.long ∙ length-take-le n xs l in
    record {
      long = simp (length-append, length-drop) (omega arith);
      each = λ i p. get_or_append_left ys (drop n xs) 0 i (omega arith) ∙ b.each i p;
      later = λ i p.
          let d : n + (i - n) ≡ i = omega arith in
          get_or-append_right ys (drop n xs) n i 0 h (omega arith) ∙ (get_or-drop n xs (i - n) 0 ∙ ap (entry xs) d);
    }
