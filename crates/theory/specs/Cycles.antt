-- Runs cycle by cycle, and the least of a window computed from them.
use Rattle.std.specs.Prelude.{◌≡◌, Bool, ℕ, ◌+◌, ◌-◌, ◌*◌, ◌/◌, ◌%◌, ◌<◌, T, ltb}
use Rattle.laws.specs.Test.{pick, any}
use Rattle.laws.specs.Minimum.{minimum}
use Rattle.laws.specs.Climb.{climb}
use Rattle.theory.specs.Grants.{Stream, count, others}
use Rattle.theory.specs.Tree.{Tree, is_leaf, Position, grant, start}

-- A cycle takes a word: a number below `words` that passes `word`. Word v grants queue v r at its tick r < `period`.
pub record System : Type 0 where
  pub period : ℕ
  pub words : ℕ
  pub word : ℕ → Bool
  pub queue : ℕ → ℕ → ℕ

abbrev pub Word : System → ℕ → Type 0
Word S v = (v < S.words) × T (S.word v)

-- Any word may come after any other.
abbrev pub Choice : System → (ℕ → ℕ) → Type 0
Choice S c = (i : ℕ) → Word S (c i)

-- What the cycles of words c 0, c 1, .. grant.
abbrev pub stream : System → (ℕ → ℕ) → Stream
stream S c n = S.queue (c (n / S.period)) (n % S.period)

-- The streams of a system.
pub record cycles (S : System) (g : Stream) : Type 0 where
  pub chosen : ℕ → ℕ
  pub words : Choice S chosen
  pub each : (n : ℕ) → g n ≡ stream S chosen n

-- ---- the least, computed

-- The least over the words of the l ticks from tick s of a cycle on.
abbrev pub low : System → (ℕ → Bool) → ℕ → ℕ → ℕ
low S p s l = minimum S.word (λ v. count p (S.queue v) s l) l S.words

abbrev pub cycle_least : System → (ℕ → Bool) → ℕ
cycle_least S p = low S p 0 S.period

abbrev pub cycle_most : System → (ℕ → Bool) → ℕ
cycle_most S p = S.period - cycle_least S (others p)

-- From a cycle's start on: whole cycles, each the least, and the beginning of one more.
abbrev pub tail : System → (ℕ → Bool) → ℕ → ℕ
tail S p r = r / S.period * cycle_least S p + low S p 0 (r % S.period)

-- From tick s of a cycle on: inside it, or its end and then cycles that are chosen anew.
abbrev pub from : System → (ℕ → Bool) → ℕ → ℕ → ℕ
from S p s t = pick (ltb (s + t) S.period) (low S p s t) (low S p s (S.period - s) + tail S p (t - (S.period - s)))

-- From any tick on.
abbrev pub least_of : System → (ℕ → Bool) → ℕ → ℕ
least_of S p t = minimum any (λ s. from S p s t) t S.period

-- The most is what the others leave at least.
abbrev pub most_of : System → (ℕ → Bool) → ℕ → ℕ
most_of S p t = t - least_of S (others p) t

-- ---- the cycles of a tree

-- The location on v's path at tick r of a cycle, and how many of its ticks are done.
abbrev pub on_path : Tree → ℕ → ℕ → ℕ
on_path t v r = climb t.parent (λ u. u) (λ u x. pick (ltb r (start t u)) x u) v v

abbrev pub spot : Tree → ℕ → ℕ → Position
spot t v r = record { location = on_path t v r; done = r - start t (on_path t v r) }

-- The words of a tree are its leaves.
abbrev pub system : Tree → System
system t = record { period = t.period; words = t.size; word = is_leaf t; queue = λ v r. grant t (spot t v r) }
