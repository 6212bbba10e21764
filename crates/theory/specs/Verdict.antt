-- Verdict and wait, as the rules word them, over a set of streams.
use Rattle.std.specs.Prelude.{◌≡◌, Bool, ℕ, ◌*◌, ◌≤◌, ◌<◌}
use Rattle.theory.specs.Grants.{is}
use Rattle.theory.specs.Bounds.{Streams, Least}
use Rattle.theory.specs.Task.{Tasks, Each, demand}

-- Demand is at most the least supply in every window, with no upper end.
abbrev pub Meets : Streams → Tasks → ℕ → Type 0
Meets G ts q = (t m : ℕ) → 1 ≤ t → Least G (is q) t m → demand ts q t ≤ m

-- t is the shortest window in which demand exceeds the least supply.
pub record Short (G : Streams) (ts : Tasks) (q t demanded supply : ℕ) : Type 0 where
  pub some : 1 ≤ t
  pub demands : demand ts q t ≡ demanded
  pub supplies : Least G (is q) t supply
  pub exceeds : supply < demanded
  pub shortest : (w m : ℕ) → 1 ≤ w → w < t → Least G (is q) w m → demand ts q w ≤ m

-- t is the shortest window whose least supply reaches c.
pub record Wait (G : Streams) (p : ℕ → Bool) (c t : ℕ) : Type 0 where
  pub supply : ℕ
  pub supplies : Least G p t supply
  pub reached : c ≤ supply
  pub shortest : (w m : ℕ) → w < t → Least G p w m → m < c

abbrev pub Multiple : ℕ → ℕ → Type 0
Multiple L a = (k : ℕ) × (L ≡ k * a)

-- L is the least common multiple of P and the gaps of queue q's tasks: every other is a multiple of it.
pub record CommonMultiple (ts : Tasks) (q P L : ℕ) : Type 0 where
  pub some : 1 ≤ L
  pub of_period : Multiple L P
  pub of_gaps : Each ts q (λ i. Multiple L (ts.task i).gap)
  pub divides : (M : ℕ) → Multiple M P → Each ts q (λ i. Multiple M (ts.task i).gap) → Multiple M L
