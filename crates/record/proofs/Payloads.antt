-- Numbers and payloads, there and back: two bytes are the quotient and the rest by 256, and each payload is its numbers in a row.
-- Assumes nothing.
use mathlib.Core.Path.{◌≡◌, refl, sym, ap, ◌∙◌}
use mathlib.Core.List.{List, [], ◌∷◌, ◌++◌}
use Prim.Native.Nat.{ℕ, zero, suc, ◌+◌, ◌*◌, ◌≤◌, ◌<◌}
use native.Mathlib.Nat.{add-zero}
use native.Mathlib.Numerals.{add-one}
use native.Mathlib.Omega.{arith}
use lib.ListN.{length, get_or, take, drop}
use lib.Seq.{drop-cons, get_or-drop}
use Rattle.table.specs.declared.Location.{Location}
use Rattle.table.specs.declared.Task.{Task}
use Rattle.table.specs.declared.Table.{Table}
use Rattle.table.specs.Ranged.{RangedLocation, RangedTask}
use Rattle.format.specs.Format.{number16, high_byte, low_byte, header_bytes, location_bytes, task_bytes, header_of, location_of, task_of}

-- ---- numbers

pub number_back : (x : ℕ) (more : List ℕ) → x < 65536 → number16 (high_byte x ∷ low_byte x ∷ more) ≡ x
number_back x more h = omega arith

pub high_back : (a b : ℕ) → a < 256 → b < 256 → high_byte (a * 256 + b) ≡ a
high_back a b h l = omega arith

pub low_back : (a b : ℕ) → b < 256 → low_byte (a * 256 + b) ≡ b
low_back a b l = omega arith

-- every byte of a list is one
abbrev pub Bytes : List ℕ → Type 0
Bytes s = (i : ℕ) → get_or s i 0 < 256

pub bytes_drop : (k : ℕ) (s : List ℕ) → Bytes s → Bytes (drop k s)
bytes_drop k s b i = rw (get_or-drop k s i 0) (b (k + i))

pub number_in_width : (s : List ℕ) → Bytes s → number16 s < 65536
number_in_width s b = omega (arith, b 0, b 1)

pub location_in_width : (s : List ℕ) → Bytes s → RangedLocation (location_of s)
location_in_width s b = record {
  parent = b 0;
  queue = b 1;
  ticks = number_in_width (drop 2 s) (bytes_drop 2 s b);
  variable = b 4;
  low = number_in_width (drop 5 s) (bytes_drop 5 s b);
  high = number_in_width (drop 7 s) (bytes_drop 7 s b);
}

pub task_in_width : (s : List ℕ) → Bytes s → RangedTask (task_of s)
task_in_width s b = record {
  queue = b 0;
  work = number_in_width (drop 1 s) (bytes_drop 1 s b);
  deadline = number_in_width (drop 3 s) (bytes_drop 3 s b);
  gap = number_in_width (drop 5 s) (bytes_drop 5 s b);
}

-- the bytes of the number at place k
module _ (s : List ℕ) (k : ℕ) (b : Bytes s) where
  high_at : high_byte (number16 (drop k s)) ≡ get_or s k 0
  high_at = high_back _ _ (bytes_drop k s b 0) (bytes_drop k s b 1) ∙ (get_or-drop k s 0 0 ∙ ap (λ n. get_or s n 0) (add-zero k))

  low_at : low_byte (number16 (drop k s)) ≡ get_or s (suc k) 0
  low_at = low_back _ _ (bytes_drop k s b 1) ∙ (get_or-drop k s 1 0 ∙ ap (λ n. get_or s n 0) (add-one k))

-- ---- values to bytes to values, whatever follows

pub location_back : (l : Location) (more : List ℕ) → RangedLocation l → location_of (location_bytes l ++ more) ≡ l
location_back l more w = λ i. record {
  parent = l.parent;
  queue = l.queue;
  ticks = number_back l.ticks [] w.ticks i;
  variable = l.variable;
  low = number_back l.low [] w.low i;
  high = number_back l.high [] w.high i;
}

pub task_back : (k : Task) (more : List ℕ) → RangedTask k → task_of (task_bytes k ++ more) ≡ k
task_back k more w = λ i. record {
  queue = k.queue;
  work = number_back k.work [] w.work i;
  deadline = number_back k.deadline [] w.deadline i;
  gap = number_back k.gap [] w.gap i;
}

pub header_back : (t : Table) (more : List ℕ) → t.period < 65536
    → ((header_of (header_bytes t ++ more)).version ≡ t.version) × ((header_of (header_bytes t ++ more)).queues ≡ t.queues) × ((header_of (header_bytes t ++ more)).period ≡ t.period)
header_back t more w = (refl, refl, number_back t.period [] w)

-- ---- bytes to values to bytes

-- n bytes from place i on, one by one
abbrev bytes_from : List ℕ → ℕ → ℕ → List ℕ
bytes_from s i zero = []
bytes_from s i (suc n) = get_or s i 0 ∷ bytes_from s (suc i) n

pub bytes_from_law : (s : List ℕ) (i n : ℕ) → i + n ≤ length s → bytes_from s i n ≡ take n (drop i s)
bytes_from_law s i zero h = refl
bytes_from_law s i (suc n) h = ap (λ (r : List ℕ). get_or s i 0 ∷ r) (bytes_from_law s (suc i) n (omega arith)) ∙ sym (ap (take (suc n)) (drop-cons s i 0 (omega arith)))

module _ (s : List ℕ) (b : Bytes s) where
  pub header_bytes_back : 4 ≤ length s → header_bytes (header_of s) ≡ take 4 s
  header_bytes_back h = (λ i. get_or s 0 0 ∷ get_or s 1 0 ∷ high_at s 2 b i ∷ low_at s 2 b i ∷ []) ∙ bytes_from_law s 0 4 h

  pub location_bytes_back : 9 ≤ length s → location_bytes (location_of s) ≡ take 9 s
  location_bytes_back h =
      (λ i. get_or s 0 0 ∷ get_or s 1 0 ∷ high_at s 2 b i ∷ low_at s 2 b i ∷ get_or s 4 0 ∷ high_at s 5 b i ∷ low_at s 5 b i ∷ high_at s 7 b i ∷ low_at s 7 b i ∷ [])
      ∙ bytes_from_law s 0 9 h

  pub task_bytes_back : 7 ≤ length s → task_bytes (task_of s) ≡ take 7 s
  task_bytes_back h =
      (λ i. get_or s 0 0 ∷ high_at s 1 b i ∷ low_at s 1 b i ∷ high_at s 3 b i ∷ low_at s 3 b i ∷ high_at s 5 b i ∷ low_at s 5 b i ∷ [])
      ∙ bytes_from_law s 0 7 h
