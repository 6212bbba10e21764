-- Counts in a window: at most its ticks, and all its ticks over all queues and nobody. Assumes nothing.
use mathlib.Core.Path.{◌≡◌, refl, sym, ap, ◌∙◌}
use mathlib.Core.Bool.{Bool, true, false, not}
use mathlib.Core.Logic.{inl, inr}
use Prim.Native.Nat.{ℕ, zero, suc, ◌+◌, ◌≤◌, ◌<◌}
use native.Mathlib.Omega.{arith}
use lib.Dec.{eqb}
use Rattle.laws.specs.Test.{bit}
use Rattle.laws.specs.Sum.{sum}
use Rattle.laws.proofs.Test.{last_or_before, eqb_of, neqb_of, bit_yes, bit_no, bit_le}
use Rattle.laws.proofs.Sum.{sum_split, sum_last₀, sum_same, sum_le, sum_const, sum_zero, sum_one, sum_add, sum_swap}
use Rattle.theory.specs.Grants.{Stream, count, is, others}

pub count_split : (p : ℕ → Bool) (g : Stream) (s a b : ℕ) → count p g s (a + b) ≡ count p g s a + count p g (s + a) b
count_split p g s a b = sum_split (λ n. bit (p (g n))) s a b

pub count_same : (p : ℕ → Bool) (g h : Stream) (s r t : ℕ) → ((i : ℕ) → i < t → g (s + i) ≡ h (r + i)) → count p g s t ≡ count p h r t
count_same p g h s r t e = sum_same (λ n. bit (p (g n))) (λ n. bit (p (h n))) s r t (λ i l. ap (λ x. bit (p x)) (e i l))

pub count_le : (p : ℕ → Bool) (g : Stream) (s t : ℕ) → count p g s t ≤ t
count_le p g s t = omega (arith, sum_le (λ n. bit (p (g n))) (λ n. 1) s s t (λ i l. bit_le (p (g (s + i)))), sum_const 1 s t)

-- the ticks that pass and the others are all
pub count_others : (p : ℕ → Bool) (g : Stream) (s t : ℕ) → count p g s t + count (others p) g s t ≡ t
count_others p g s t =
    sym (sum_add (λ n. bit (p (g n))) (λ n. bit (not (p (g n)))) s t)
    ∙ sum_one (λ n. bit (p (g n)) + bit (not (p (g n)))) s t (λ i l. one (p (g (s + i))))
  where
    one : (b : Bool) → bit b + bit (not b) ≡ 1
    one true = refl
    one false = refl

-- a queue below Q is just one of them
one_queue : (x Q : ℕ) → x < Q → sum (λ q. bit (is q x)) 0 Q ≡ 1
unfolding sum
one_queue x zero h = absurd (omega arith)
one_queue x (suc Q) h =
    let r = sum_last₀ (λ q. bit (is q x)) Q in
    elim (last_or_before x Q h) [
      | inl e ↦ omega (arith, r, sum_zero (λ q. bit (is q x)) 0 Q (λ i l. bit_no (eqb x (0 + i)) (neqb_of x (0 + i) (omega arith))), bit_yes (eqb x Q) (eqb_of x Q e))
      | inr l ↦ omega (arith, r, one_queue x Q l, bit_no (eqb x Q) (neqb_of x Q (omega arith)))
    ]

-- the counts of all queues and of nobody sum to the window's length
pub counts_are_all : (g : Stream) (Q s t : ℕ) → ((n : ℕ) → g n < Q) → sum (λ q. count (is q) g s t) 0 Q ≡ t
counts_are_all g Q s t h =
    sum_swap (λ q n. bit (is q (g n))) 0 Q s t
    ∙ sum_one (λ n. sum (λ q. bit (is q (g n))) 0 Q) s t (λ i l. one_queue (g (s + i)) Q (h (s + i)))
