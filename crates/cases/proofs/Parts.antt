-- The parts that std cuts off one after another are those of a question. Assumes nothing.
use Rattle.std.proofs.Common.{◌≡◌, ℕ, ◌+◌, List, ◌++◌, length, get_or, take, drop, ap, sym, ◌∙◌, arith}
use Rattle.std.proofs.lemmas.List.{drop-drop, get_or-take, take-append-drop}
use Rattle.std.specs.Int.{w16, w32, from_be_bytes}
use Rattle.std.specs.List.{IsSplitAt}
use Rattle.cases.specs.Questions.{number32, name_length, steps_length, bytes_length}
use Rattle.cases.proofs.Numbers.{two_bytes, four_bytes}

-- What `split_first_chunk` says of n bytes.
abbrev pub IsChunk : ℕ → List ℕ → List ℕ → List ℕ → Type 0
IsChunk n s front back = (front ≡ take n s) × (back ≡ drop n s) × (length back + n ≡ length s)

-- The chunk of what begins at m.
next : (n m : ℕ) (s at front back : List ℕ) → at ≡ drop m s → length at + m ≡ length s → IsChunk n at front back
    → (front ≡ take n (drop m s)) × (back ≡ drop (m + n) s) × (length back + (m + n) ≡ length s)
next n m s at front back here long chunk = (chunk.0 ∙ ap (take n) here, chunk.1 ∙ ap (drop n) here ∙ drop-drop n m s, omega arith)

-- What the fourteen bytes before the name say: a has length and kind, b and c the two numbers, d and e the two lengths.
pub record Head (s a b c d e at14 : List ℕ) : Type 0 where
  pub long : length at14 + 14 ≡ length s
  pub name : get_or a 0 0 ≡ name_length s
  pub kind : get_or a 1 0 ≡ get_or s 1 0
  pub first : from_be_bytes w32 b ≡ number32 (drop 2 s)
  pub second : from_be_bytes w32 c ≡ number32 (drop 6 s)
  pub steps : from_be_bytes w16 d ≡ steps_length s
  pub bytes : from_be_bytes w16 e ≡ bytes_length s
  pub rest : at14 ≡ drop 14 s

pub head : (s : List ℕ) {a b c d e at2 at6 at10 at12 at14 : List ℕ}
    → IsChunk 2 s a at2 → IsChunk 4 at2 b at6 → IsChunk 4 at6 c at10 → IsChunk 2 at10 d at12 → IsChunk 2 at12 e at14 → Head s a b c d e at14
head s {a = a} {b = b} {c = c} {d = d} {e = e} {at2 = at2} {at6 = at6} {at10 = at10} {at12 = at12} {at14 = at14} kind first second steps bytes =
    let first6 = next 4 2 s at2 b at6 kind.1 kind.2 first in
    let second10 = next 4 6 s at6 c at10 first6.1 first6.2 second in
    let steps12 = next 2 10 s at10 d at12 second10.1 second10.2 steps in
    let bytes14 = next 2 12 s at12 e at14 steps12.1 steps12.2 bytes in
    record {
      long = bytes14.2;
      name = ap (λ (xs : List ℕ). get_or xs 0 0) kind.0 ∙ get_or-take 2 s 0 0 (omega arith);
      kind = ap (λ (xs : List ℕ). get_or xs 1 0) kind.0 ∙ get_or-take 2 s 1 0 (omega arith);
      first = ap (from_be_bytes w32) first6.0 ∙ four_bytes (drop 2 s);
      second = ap (from_be_bytes w32) second10.0 ∙ four_bytes (drop 6 s);
      steps = ap (from_be_bytes w16) steps12.0 ∙ two_bytes (drop 10 s);
      bytes = ap (from_be_bytes w16) bytes14.0 ∙ two_bytes (drop 12 s);
      rest = bytes14.1;
    }

pub joined : (s : List ℕ) (n : ℕ) {front back : List ℕ} → IsSplitAt s n front back → s ≡ front ++ back
joined s n {front = front} {back = back} split =
    sym (take-append-drop n s) ∙ ap (λ (xs : List ℕ). xs ++ drop n s) (sym split.1) ∙ ap (λ (xs : List ℕ). front ++ xs) (sym split.2)
