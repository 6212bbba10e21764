-- What a turn of each pass writes: the pass down takes the next entry where it is less, the pass up one more than the entry before.
-- Assumes nothing.
use mathlib.Core.Path.{◌≡◌, refl, sym, ap, ◌∙◌}
use mathlib.Core.List.{List}
use Prim.Native.Nat.{ℕ, zero, suc, ◌+◌, ◌-◌, ◌≤◌, ◌<◌, min, zero-le}
use native.Mathlib.Omega.{arith}
use lib.ListN.{length, set}
use Rattle.theory.specs.Filling.{down, up, filling}
use Rattle.theory.proofs.Filling.{down_last, down_step}
use Rattle.table.specs.Columns.{entry}
use Rattle.slice.specs.Changes.{Becomes}
use Rattle.slice.proofs.Between.{Between, between_one, between_more, between_less}

module _ (xs : List ℕ) (last : ℕ) where
  abbrev pub falling : ℕ → ℕ
  falling i = down (entry xs) (last - i) i

  pub down_starts : (lo : ℕ) → lo ≡ last → Between falling lo (last + 1) xs xs
  down_starts lo e = rw e (between_one falling last xs (sym (down_last (entry xs) last)))

  pub down_turn : (i k x : ℕ) (ys : List ℕ) → k ≡ suc i → k ≤ last → last < length xs → x ≡ min (entry ys i) (entry ys k) → Between falling k (last + 1) xs ys
      → Between falling i (last + 1) xs (set ys i x)
  down_turn i k x ys e l room v b =
      between_less falling i k (last + 1) x xs ys e (omega arith) (omega arith)
      (omega (arith, v, b.under i (omega arith), b.inside k (omega arith) (omega arith), down_step (entry xs) last i (omega arith), ap falling e))
      b

module _ (xs : List ℕ) where
  pub up_starts : Between (up (entry xs)) 0 1 xs xs
  unfolding up
  up_starts = between_one (up (entry xs)) 0 xs refl

  pub up_turn : (i k x : ℕ) (ys : List ℕ) → k ≡ suc i → k < length xs → x ≡ min (entry ys k) (entry ys i + 1) → Between (up (entry xs)) 0 k xs ys
      → Between (up (entry xs)) 0 (k + 1) xs (set ys k x)
  unfolding up
  up_turn i k x ys e l v b =
      between_more (up (entry xs)) 0 k x xs ys zero-le l (omega (arith, v, b.over k (omega arith), b.inside i zero-le (omega arith), ap (up (entry xs)) e, ap (entry xs) e)) b

-- ---- both passes

-- the pass up looks only at the entries before
up_same : (f g : ℕ → ℕ) (t : ℕ) → ((i : ℕ) → i ≤ t → f i ≡ g i) → up f t ≡ up g t
unfolding up
up_same f g zero e = e 0 zero-le
up_same f g (suc t) e = omega (arith, e (suc t) (omega arith), up_same f g t (λ i l. e i (omega arith)))

pub settled : (last : ℕ) (xs ys zs : List ℕ) → Becomes last (λ i. down (entry xs) (last - i) i) xs ys → Becomes last (up (entry ys)) ys zs
    → Becomes last (filling (entry xs) last) xs zs
settled last xs ys zs a b = record {
  long = b.long ∙ a.long;
  each = λ i l. b.each i l ∙ up_same (entry ys) (λ n. down (entry xs) (last - n) n) i (λ j m. a.each j (omega arith));
  later = λ i l. b.later i l ∙ a.later i l;
}
