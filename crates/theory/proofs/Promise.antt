-- Demand 3. Where demand is met, no job of the queue is late under earliest deadline first, in any run of the tree, for any
-- accepted releases, whatever the other queues do. Where a window is short, some run and accepted releases make a job of
-- the queue late by the window's end under every order of service. Assumes nothing.
use mathlib.Core.Bool.{Bool, not}
use Prim.Native.Nat.{ℕ, zero, suc, ◌+◌, ◌≤◌, ◌<◌, zero-le}
use native.Mathlib.Omega.{arith}
use lib.Dec.{T}
use Rattle.theory.specs.Grants.{Stream, count, is}
use Rattle.theory.specs.Bounds.{Streams, Least}
use Rattle.theory.specs.Task.{Tasks, LawfulTask, belongs, Each, demand}
use Rattle.theory.specs.Verdict.{Meets, Short}
use Rattle.theory.specs.Steps.{Service, Respects, edf, Accepted, late, SomeLate}
use Rattle.theory.proofs.Demand.{demand_zero}
use Rattle.theory.proofs.NeverLate.{never_late}
use Rattle.theory.proofs.SomeLate.{greedy, greedy_accepted, some_late}

module _ (G : Streams) (ts : Tasks) (q : ℕ) (lawful : Each ts q (λ i. LawfulTask (ts.task i))) where
  pub meets_never_late : ((w : ℕ) → (m : ℕ) × Least G (is q) w m) → Meets G ts q
      → (g : Stream) → G g → (r : ℕ → ℕ → Bool) → Accepted ts r (edf ts g)
      → (n i : ℕ) → i < ts.number → T (belongs ts q i) → T (not (late ts r (edf ts g) n i))
  meets_never_late some meets g granted r accepted = never_late ts q r g lawful accepted enough
    where
      enough : (s a : ℕ) → demand ts q a ≤ count (is q) g s a
      enough s zero = rw (demand_zero ts q lawful) zero-le
      enough s (suc a) = let (m, l) = some (suc a) in omega (arith, meets (suc a) m (omega arith) l, l.lower g s granted)

  -- the run and the releases come first; then any order of service is late by tick d, the end of a window of w ticks
  pub short_some_late : (w d s : ℕ) → Short G ts q w d s
      → (g : Stream) × (start : ℕ) × (r : ℕ → ℕ → Bool) × G g
      × ((o : Service) → Respects ts g o → Accepted ts r o × SomeLate ts q r o (start + w))
  short_some_late w d s short =
      let l = short.supplies in (
        l.stream,
        l.start,
        greedy ts l.start,
        l.granted,
        λ o respects. (
          greedy_accepted ts l.start o,
          some_late ts q l.stream o lawful respects l.start w (omega (arith, l.met, short.demands, short.exceeds)),
        ),
      )
