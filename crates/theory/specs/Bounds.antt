-- The bounds: the least and the most of the ticks in any window of a length, over a set of streams.
use Rattle.std.specs.Prelude.{◌≡◌, Bool, ℕ, ◌≤◌}
use Rattle.theory.specs.Grants.{Stream, count}

-- A set of streams: those that the runs of a tree grant, say.
abbrev pub Streams : Type 1
Streams = Stream → Type 0

-- Some stream of the set has m ticks that pass in some window of t ticks; no window of t ticks of any stream has fewer.
pub record Least (G : Streams) (p : ℕ → Bool) (t m : ℕ) : Type 0 where
  pub stream : Stream
  pub start : ℕ
  pub granted : G stream
  pub met : count p stream start t ≡ m
  pub lower : (g : Stream) (s : ℕ) → G g → m ≤ count p g s t

-- Some window of t ticks has n, and no window of t ticks of any stream has more.
pub record Most (G : Streams) (p : ℕ → Bool) (t n : ℕ) : Type 0 where
  pub stream : Stream
  pub start : ℕ
  pub granted : G stream
  pub met : count p stream start t ≡ n
  pub upper : (g : Stream) (s : ℕ) → G g → count p g s t ≤ n
