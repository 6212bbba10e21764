-- Pieces of one length in a row: where each of them is, and that what follows it is the rest of the row; and a list with one entry
-- more, whose row is one piece longer. Assumes nothing.
use mathlib.Core.Path.{◌≡◌, refl, sym, ap, ap₂, subst, ◌∙◌}
use mathlib.Core.List.{List, [], ◌++◌, append_assoc}
use mathlib.Core.Logic.{inl, inr}
use Prim.Native.Nat.{ℕ, zero, suc, ◌+◌, ◌*◌, ◌<◌}
use native.Mathlib.Numerals.{add-one}
use native.Mathlib.Omega.{arith}
use lib.ListN.{length, get_or, set, drop, length-append}
use lib.Seq.{drop_at, get_or-set_same, get_or-set_other}
use Rattle.laws.proofs.Test.{last_or_before}

-- f 0, f 1, .. f (n - 1), one after another
unfoldable pub row : (ℕ → List ℕ) → ℕ → List ℕ
row f zero = []
row f (suc n) = row f n ++ f n

pub row_same : (f g : ℕ → List ℕ) (n : ℕ) → ((i : ℕ) → i < n → f i ≡ g i) → row f n ≡ row g n
unfolding row
row_same f g zero e = refl
row_same f g (suc n) e = ap₂ ◌++◌ (row_same f g n (λ i l. e i (omega arith))) (e n (omega arith))

module _ (f : ℕ → List ℕ) (w : ℕ) (long : (i : ℕ) → length (f i) ≡ w) where
  pub length_row : (n : ℕ) → length (row f n) ≡ w * n
  unfolding row
  length_row zero = omega arith
  length_row (suc n) = omega (arith, length-append (row f n) (f n), length_row n, long n)

  -- after `before`, and with `more` behind: all up to piece i, piece i, and the rest
  split : (before more : List ℕ) (n i : ℕ) → i < n → (rest : List ℕ) × (before ++ (row f n ++ more) ≡ (before ++ row f i) ++ (f i ++ rest))
  unfolding row
  split before more zero i l = absurd (omega arith)
  split before more (suc n) i l =
      let last : before ++ (row f (suc n) ++ more) ≡ before ++ (row f n ++ (f n ++ more)) = ap (λ (r : List ℕ). before ++ r) (append_assoc (row f n) (f n) more) in
      elim (last_or_before i n l) [
        | inl e ↦ (more, rw e (last ∙ sym (append_assoc before (row f n) (f n ++ more))))
        | inr h ↦ let (rest, e) = split before (f n ++ more) n i h in (rest, last ∙ e)
      ]

  -- from piece i on there is piece i, and what there is from piece i + 1 on
  pub piece_at : (before more : List ℕ) (b n i : ℕ) → length before ≡ b → i < n
      → drop (b + w * i) (before ++ (row f n ++ more)) ≡ f i ++ drop (b + w * suc i) (before ++ (row f n ++ more))
  piece_at before more b n i e l =
      let (rest, q) = split before more n i l in
      let here : length (before ++ row f i) ≡ b + w * i = omega (arith, length-append before (row f i), length_row i) in
      let next : length ((before ++ row f i) ++ f i) ≡ b + w * suc i = omega (arith, length-append (before ++ row f i) (f i), long i) in
      let after = ap (drop (b + w * suc i)) (q ∙ sym (append_assoc (before ++ row f i) (f i) rest)) ∙ drop_at ((before ++ row f i) ++ f i) rest (b + w * suc i) next in
      ap (drop (b + w * i)) q ∙ (drop_at (before ++ row f i) (f i ++ rest) (b + w * i) here ∙ ap (λ (r : List ℕ). f i ++ r) (sym after))

-- ---- one entry more: a is stored at n

module _ {A : Type 0} (xs : List A) (n : ℕ) (a d : A) (l : n < length xs) where
  -- what holds of the entries below n, and of a, holds of the entries up to n
  pub each_stored : (P : ℕ → A → Type 0) → ((i : ℕ) → i < n → P i (get_or xs i d)) → P n a → (i : ℕ) → i < n + 1 → P i (get_or (set xs n a) i d)
  each_stored P h p i m = elim (last_or_before i n (omega arith)) [
    | inl e ↦ rw e (subst (P n) (sym (get_or-set_same xs n a d l)) p)
    | inr g ↦ subst (P i) (sym (get_or-set_other xs n i a d (omega arith))) (h i g)
  ]

  pub row_stored : (field : A → List ℕ) → row (λ i. field (get_or (set xs n a) i d)) (n + 1) ≡ row (λ i. field (get_or xs i d)) n ++ field a
  unfolding row
  row_stored field =
      ap (row (λ i. field (get_or (set xs n a) i d))) (add-one n)
      ∙ ap₂ ◌++◌ (row_same _ _ n (λ i m. ap field (get_or-set_other xs n i a d (omega arith)))) (ap field (get_or-set_same xs n a d l))
