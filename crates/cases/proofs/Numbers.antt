-- The numbers that std makes of bytes are those of the format. Assumes nothing.
use Rattle.std.proofs.Common.{◌≡◌, ℕ, zero, suc, ◌+◌, ◌*◌, ◌/◌, ◌<◌, ◌≤◌, List, [], ◌∷◌, length, get_or, take, drop, refl, ap, sym, subst, ◌∙◌, arith}
use Rattle.std.proofs.lemmas.List.{drop-drop}
use denote.Param.Members.{Mut, Called}
use Rattle.std.specs.Array.{IsFromFnResultFrom, IsFromFnResult}
use Rattle.std.specs.Int.{w16, w32, from_be_bytes}
use Rattle.std.specs.Simd.{first_chunks}
use Rattle.format.specs.Format.{number16}
use Rattle.cases.specs.Questions.{number32}

pub two_bytes : (s : List ℕ) → from_be_bytes w16 (take 2 s) ≡ number16 s
two_bytes [] = refl
two_bytes (a ∷ []) = refl
two_bytes (a ∷ b ∷ s) = refl

pub four_bytes : (s : List ℕ) → from_be_bytes w32 (take 4 s) ≡ number32 s
four_bytes [] = refl
four_bytes (a ∷ []) = omega arith
four_bytes (a ∷ b ∷ []) = omega arith
four_bytes (a ∷ b ∷ c ∷ []) = omega arith
four_bytes (a ∷ b ∷ c ∷ d ∷ s) = omega arith

chunk_at : (k : ℕ) (s : List ℕ) (i : ℕ) → i < k → get_or (first_chunks 2 k s) i [] ≡ take 2 (drop (2 * i) s)
chunk_at zero s i below = absurd (omega arith)
chunk_at (suc k) s zero below = refl
chunk_at (suc k) s (suc i) below =
    let place : 2 + 2 * i ≡ 2 * suc i = omega arith in
    chunk_at k (drop 2 s) i (omega arith) ∙ ap (take 2) (drop-drop (2 * i) 2 s ∙ ap (λ (n : ℕ). drop n s) place)

-- Pair i of those that `as_chunks` finds.
pub pair_at : (s : List ℕ) (n i : ℕ) → i < n → n * 2 ≤ length s → get_or (first_chunks 2 (length s / 2) s) i [] ≡ take 2 (drop (2 * i) s)
pair_at s n i below long = chunk_at (length s / 2) s i (omega arith)

-- Where a call at each number below N answers what P says and leaves the closure as it is, P holds of each entry that `from_fn` made.
module _ {F B : Type 0} {g : Mut F (ℕ × Unit {0}) B} {f : F} (N : ℕ) (P : ℕ → B → Type 0) (d : B)
    (one : (i : ℕ) (y : B) (q : F) → i < N → Called g f (i, tt) y q → P i y × (q ≡ f)) (ys : List B) where
  later : (n i k : ℕ) → IsFromFnResultFrom g f ys i n → i + n ≤ N → k < n → P (i + k) (get_or ys (i + k) d)
  later zero i k calls room below = absurd (omega arith)
  later (suc n) i zero (q, y, here, call, rest) room below =
      let now : P i y × (q ≡ f) = one i y q (omega arith) call in
      let place : i ≡ i + 0 = omega arith in
      subst (λ (j : ℕ). P j (get_or ys j d)) place (subst (λ (v : B). P i v) (sym (here.1 d)) now.0)
  later (suc n) i (suc k) (q, y, here, call, rest) room below =
      let now : P i y × (q ≡ f) = one i y q (omega arith) call in
      let place : i + 1 + k ≡ i + suc k = omega arith in
      subst (λ (j : ℕ). P j (get_or ys j d)) place
      (later n (i + 1) k (subst (λ (v : F). IsFromFnResultFrom g v ys (i + 1) n) now.1 rest) (omega arith) (omega arith))

  pub each_entry : IsFromFnResult g f ys N → (k : ℕ) → k < N → P k (get_or ys k d)
  each_entry calls k below =
      let place : 0 + k ≡ k = omega arith in
      subst (λ (j : ℕ). P j (get_or ys j d)) place (later N 0 k calls.each (omega arith) below)
