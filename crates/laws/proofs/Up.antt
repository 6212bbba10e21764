-- Laws of a list whose first entries are replaced: its length, its entries, and one entry more. Assumes nothing.
use mathlib.Core.Path.{◌≡◌, refl, sym, ap₂, ◌∙◌}
use mathlib.Core.List.{List}
use mathlib.Core.Logic.{inl, inr}
use Prim.Native.Nat.{ℕ, zero, suc, ◌+◌, ◌≤◌, ◌<◌}
use native.Mathlib.Omega.{arith}
use native.Mathlib.Numerals.{add-one}
use lib.ListN.{length, get_or, set, length-set}
use lib.Seq.{get_or-set_same, get_or-set_other}
use Rattle.laws.specs.Up.{up_to}
use Rattle.laws.proofs.Test.{last_or_before}

module _ {A : Type 0} (f : ℕ → A) where
  pub up_none : (xs : List A) → up_to f 0 xs ≡ xs
  unfolding up_to
  up_none xs = refl

  pub up_more : (n : ℕ) (xs : List A) → up_to f (n + 1) xs ≡ set (up_to f n xs) n (f n)
  unfolding up_to
  up_more n xs = rw add-one

  pub up_length : (n : ℕ) (xs : List A) → length (up_to f n xs) ≡ length xs
  unfolding up_to
  up_length zero xs = refl
  up_length (suc n) xs = simp length-set (up_length n xs)

  -- what is reached is replaced
  pub up_at : (d : A) (n i : ℕ) (xs : List A) → i < n → n ≤ length xs → get_or (up_to f n xs) i d ≡ f i
  unfolding up_to
  up_at d zero i xs l h = absurd (omega arith)
  up_at d (suc n) i xs l h = elim (last_or_before i n l) [
    | inl e ↦ rw e (get_or-set_same (up_to f n xs) n (f n) d (omega (arith, up_length n xs)))
    | inr m ↦ get_or-set_other (up_to f n xs) n i (f n) d (omega arith) ∙ up_at d n i xs m (omega arith)
  ]

  -- what is not reached is as it was
  pub up_later : (d : A) (n i : ℕ) (xs : List A) → n ≤ i → get_or (up_to f n xs) i d ≡ get_or xs i d
  unfolding up_to
  up_later d zero i xs h = refl
  up_later d (suc n) i xs h = get_or-set_other (up_to f n xs) n i (f n) d (omega arith) ∙ up_later d n i xs (omega arith)

  -- one entry more, in a list that is replaced so far
  pub up_next : (n : ℕ) (xs ys : List A) → ys ≡ up_to f n xs → set ys n (f n) ≡ up_to f (n + 1) xs
  up_next n xs ys e = rw e (sym (up_more n xs))

-- functions that agree below n
pub up_same : {A : Type 0} (f g : ℕ → A) (n : ℕ) (xs : List A) → ((i : ℕ) → i < n → f i ≡ g i) → up_to f n xs ≡ up_to g n xs
unfolding up_to
up_same f g zero xs h = refl
up_same f g (suc n) xs h = ap₂ (λ ys x. set ys n x) (up_same f g n xs (λ i l. h i (omega arith))) (h n (omega arith))
