-- What the definitions of least and most say by themselves, over any set of streams. Each law of the most is that of the
-- least for the test turned round. Assumes nothing.
use mathlib.Core.Path.{◌≡◌}
use mathlib.Core.Bool.{Bool}
use Prim.Native.Nat.{ℕ, ◌+◌, ◌-◌, ◌≤◌}
use native.Mathlib.Omega.{arith}
use Rattle.laws.specs.Sum.{sum}
use Rattle.theory.specs.Grants.{Stream, others}
use Rattle.theory.specs.Bounds.{Streams, Least, Most}
use Rattle.theory.proofs.Grants.{count_split, count_le, count_others}

-- two sets with the same streams have the same least
pub least_carry : (G H : Streams) {p : ℕ → Bool} {t m : ℕ} → ((g : Stream) → G g → H g) → ((g : Stream) → H g → G g) → Least G p t m → Least H p t m
least_carry G H to back l =
    record { stream = l.stream; start = l.start; granted = to l.stream l.granted; met = l.met; lower = λ g s h. l.lower g s (back g h) }

module _ (G : Streams) {p : ℕ → Bool} where
  pub least_unique : {t m n : ℕ} → Least G p t m → Least G p t n → m ≡ n
  least_unique a b = omega (arith, a.lower b.stream b.start b.granted, b.lower a.stream a.start a.granted, a.met, b.met)

  pub least_none : {m : ℕ} → Least G p 0 m → m ≡ 0
  unfolding sum
  least_none l = omega (arith, l.met)

  -- the least over a + b ticks is no less than the sum of the leasts
  pub least_adds : (a b : ℕ) {x y z : ℕ} → Least G p a x → Least G p b y → Least G p (a + b) z → x + y ≤ z
  least_adds a b l m n =
      omega (arith, n.met, count_split p n.stream n.start a b, l.lower n.stream n.start n.granted, m.lower n.stream (n.start + a) n.granted)

  -- a window of b ticks more has no less, and at most b more
  pub least_grows : (a b : ℕ) {x y : ℕ} → Least G p a x → Least G p (a + b) y → (x ≤ y) × (y ≤ x + b)
  least_grows a b l m = (
    omega (arith, m.met, count_split p m.stream m.start a b, l.lower m.stream m.start m.granted),
    omega (arith, l.met, count_split p l.stream l.start a b, m.lower l.stream l.start l.granted, count_le p l.stream (l.start + a) b),
  )

-- ---- the most: what the others leave at least

module _ (G : Streams) {p : ℕ → Bool} {t m : ℕ} where
  pub most_of_least : Least G (others p) t m → Most G p t (t - m)
  most_of_least l = record {
    stream = l.stream;
    start = l.start;
    granted = l.granted;
    met = omega (arith, l.met, count_others p l.stream l.start t);
    upper = λ g s h. omega (arith, l.lower g s h, count_others p g s t);
  }

  pub least_of_most : Most G p t m → Least G (others p) t (t - m)
  least_of_most l = record {
    stream = l.stream;
    start = l.start;
    granted = l.granted;
    met = omega (arith, l.met, count_others p l.stream l.start t);
    lower = λ g s h. omega (arith, l.upper g s h, count_others p g s t);
  }

  pub most_le : Most G p t m → m ≤ t
  most_le l = omega (arith, l.met, count_le p l.stream l.start t)

module _ (G : Streams) {p : ℕ → Bool} where
  pub most_unique : {t m n : ℕ} → Most G p t m → Most G p t n → m ≡ n
  most_unique a b = omega (arith, least_unique G (least_of_most G a) (least_of_most G b), most_le G a, most_le G b)

  pub most_none : {m : ℕ} → Most G p 0 m → m ≡ 0
  most_none l = omega (arith, most_le G l)

  pub most_grows : (a b : ℕ) {x y : ℕ} → Most G p a x → Most G p (a + b) y → (x ≤ y) × (y ≤ x + b)
  most_grows a b l m =
      let r = least_grows G a b (least_of_most G l) (least_of_most G m) in
      (omega (arith, r.1, most_le G l, most_le G m), omega (arith, r.0, most_le G l, most_le G m))

  -- the most over a + b ticks is no more than the sum of the mosts
  pub most_adds : (a b : ℕ) {x y z : ℕ} → Most G p a x → Most G p b y → Most G p (a + b) z → z ≤ x + y
  most_adds a b l m n = omega (arith, least_adds G a b (least_of_most G l) (least_of_most G m) (least_of_most G n), most_le G l, most_le G m, most_le G n)
