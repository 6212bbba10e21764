-- Points lower entries, one after the other: what one point does, and one set of points after another. Assumes nothing.
use mathlib.Core.Path.{◌≡◌, refl, ap, subst, ◌∙◌}
use mathlib.Core.List.{List}
use mathlib.Core.Logic.{◌⊎◌, inl, inr}
use Prim.Native.Nat.{ℕ, suc, ◌+◌, ◌≤◌, ◌<◌, min}
use native.Mathlib.Nat.{le_refl}
use native.Mathlib.Omega.{arith}
use mathlib.Core.Bool.{Bool, true, false}
use lib.ListN.{length, set, length-set}
use lib.Dec.{T, ltb, lt→ltb}
use lib.Arith.{le→nltb}
use Rattle.laws.specs.Test.{pick}
use Rattle.laws.proofs.Test.{le_or_lt, pick_yes, pick_no, pick_le}
use Rattle.table.specs.Columns.{entry}
use Rattle.laws.proofs.Cases.{is_true}
use Rattle.slice.specs.Changes.{Lowers, Single, Until, Longer}
use Rattle.slice.proofs.Between.{set_here, set_there}

module _ (last : ℕ) where
  -- no point
  pub lowers_none : (Q : ℕ → ℕ → Type 0) → ((n m : ℕ) → Q n m → ⊥) → (xs : List ℕ) → Lowers last Q xs xs
  lowers_none Q none xs = record { long = refl; falls = λ i. le_refl _; later = λ i l. refl; met = λ n m q. absurd (none n m q); sound = λ f p h. h }

  -- one point, that is marked or not
  pub lowers_skip : (xs : List ℕ) (mark : Bool) (n m : ℕ) → (mark ≡ true → ⊥) → Lowers last (λ x y. T mark × Single n m x y) xs xs
  lowers_skip xs mark n m out = lowers_none (λ x y. T mark × Single n m x y) (λ a b p. out (is_true mark p.0)) xs

  pub lowers_mark : (xs : List ℕ) (mark : Bool) (n m x : ℕ) → mark ≡ true → last < length xs → x ≡ min (entry xs (min n last)) m
      → Lowers last (λ x y. T mark × Single n m x y) xs (set xs (min n last) x)
  lowers_mark xs mark n m x on l e = record {
    long = simp length-set;
    falls = λ i. elim (same i) [ inl d ↦ rw d (omega (arith, here)) | inr d ↦ rw (set_there xs (min n last) i x d) (le_refl _) ];
    later = λ i p. set_there xs (min n last) i x (omega arith);
    met = λ a b (p, (q, r)). rw (q, r) (omega (arith, here));
    sound = λ f p h i o. elim (same i) [
      | inl d ↦ rw d (omega (arith, here, p n m (rw on tt, (refl, refl)), h (min n last) (omega arith)))
      | inr d ↦ rw (set_there xs (min n last) i x d) (h i o)
    ];
  }
    where
      here : entry (set xs (min n last) x) (min n last) ≡ x
      here = set_here xs (min n last) x (omega arith)

      same : (i : ℕ) → (i ≡ min n last) ⊎ (i ≡ min n last → ⊥)
      same i = elim (le_or_lt i (min n last)) [
        | inl a ↦ elim (le_or_lt (min n last) i) [ inl b ↦ inl (omega arith) | inr b ↦ inr (omega arith) ]
        | inr a ↦ inr (omega arith)
      ]

  -- the points of Q, then those of R, are those of S
  pub lowers_then : (Q R S : ℕ → ℕ → Type 0) (xs ys zs : List ℕ) → ((n m : ℕ) → S n m → Q n m ⊎ R n m) → ((n m : ℕ) → Q n m → S n m) → ((n m : ℕ) → R n m → S n m)
      → Lowers last Q xs ys → Lowers last R ys zs → Lowers last S xs zs
  lowers_then Q R S xs ys zs split left right a b = record {
    long = b.long ∙ a.long;
    falls = λ i. omega (arith, a.falls i, b.falls i);
    later = λ i l. b.later i l ∙ a.later i l;
    met = λ n m s. elim (split n m s) [ inl q ↦ omega (arith, a.met n m q, b.falls (min n last)) | inr r ↦ b.met n m r ];
    sound = λ f p h. b.sound f (λ n m r. p n m (right n m r)) (a.sound f (λ n m q. p n m (left n m q)) h);
  }

  pub lowers_either : (Q R : ℕ → ℕ → Type 0) (xs ys zs : List ℕ) → Lowers last Q xs ys → Lowers last R ys zs → Lowers last (λ x y. Q x y ⊎ R x y) xs zs
  lowers_either Q R xs ys zs = lowers_then Q R (λ x y. Q x y ⊎ R x y) xs ys zs (λ n m p. p) (λ n m q. inl q) (λ n m r. inr r)

  -- the same points
  pub lowers_same : (Q S : ℕ → ℕ → Type 0) (xs ys : List ℕ) → ((n m : ℕ) → S n m → Q n m) → ((n m : ℕ) → Q n m → S n m) → Lowers last Q xs ys → Lowers last S xs ys
  lowers_same Q S xs ys back left a = record {
    long = a.long;
    falls = a.falls;
    later = a.later;
    met = λ n m s. a.met n m (back n m s);
    sound = λ f p. a.sound f (λ n m q. p n m (left n m q));
  }

  -- a set whose points are there only where the mark holds
  pub lowers_on : (Q : ℕ → ℕ → Type 0) (mark : Bool) (xs ys : List ℕ) → mark ≡ true → Lowers last Q xs ys → Lowers last (λ x y. T mark × Q x y) xs ys
  lowers_on Q mark xs ys on = lowers_same Q (λ x y. T mark × Q x y) xs ys (λ n m p. p.1) (λ n m q. (rw on tt, q))

  pub lowers_off : (Q : ℕ → ℕ → Type 0) (mark : Bool) (xs : List ℕ) → mark ≡ false → Lowers last (λ x y. T mark × Q x y) xs xs
  lowers_off Q mark xs out = lowers_none (λ x y. T mark × Q x y) (λ n m p. rw out at p.0) xs

  -- ---- set by set

  module _ (Q : ℕ → ℕ → ℕ → Type 0) where
    pub until_none : (xs : List ℕ) → Lowers last (Until Q 0) xs xs
    until_none xs = lowers_none (Until Q 0) (λ n m (u, l, q). omega arith) xs

    pub until_more : (v : ℕ) (xs ys zs : List ℕ) → Lowers last (Until Q v) xs ys → Lowers last (Q v) ys zs → Lowers last (Until Q (v + 1)) xs zs
    until_more v xs ys zs = lowers_then (Until Q v) (Q v) (Until Q (v + 1)) xs ys zs
        (λ x y (u, l, q). elim (le_or_lt v u) [ inl h ↦ let e : u ≡ v = omega arith in inr (subst (λ w. Q w x y) e q) | inr h ↦ inl (u, h, q) ])
        (λ x y (u, l, q). (u, omega arith, q))
        (λ x y q. (v, omega arith, q))

  -- ---- a whole cycle more, from the last entry to the first

  -- what no point reaches stays
  lowers_keep : (Q : ℕ → ℕ → Type 0) (xs ys : List ℕ) (k : ℕ) → ((n m : ℕ) → Q n m → k ≤ min n last) → Lowers last Q xs ys → (i : ℕ) → i < k → entry ys i ≡ entry xs i
  lowers_keep Q xs ys k far a i l = elim (le_or_lt i last) [
    | inl h ↦
        omega (
          arith,
          a.falls i,
          a.sound (λ j. pick (ltb j k) (entry xs j) 0)
              (λ n m q. omega (arith, pick_no (ltb (min n last) k) (entry xs (min n last)) 0 (le→nltb (min n last) k (far n m q))))
              (λ j o. pick_le (ltb j k) (entry xs j)) i h,
          pick_yes (ltb i k) (entry xs i) 0 (lt→ltb i k l),
        )
    | inr h ↦ a.later i h
  ]

  module _ (period cycle : ℕ) (xs : List ℕ) where
    abbrev More : ℕ → ℕ → ℕ → Type 0
    More = Longer period cycle xs

    -- the points of the entries from next on
    abbrev Since : ℕ → ℕ → ℕ → Type 0
    Since next x y = (i : ℕ) × (next ≤ i) × (i < last + 1) × More i x y

    pub record Stretching (next : ℕ) (ys : List ℕ) : Type 0 where
      pub lowers : Lowers last (Since next) xs ys
      pub under : (i : ℕ) → i < next → entry ys i ≡ entry xs i

    pub stretching_none : Stretching (last + 1) xs
    stretching_none = record { lowers = lowers_none (Since (last + 1)) (λ n m (i, a, b, q). omega arith) xs; under = λ i l. refl }

    pub stretching_more : (i next : ℕ) (ys zs : List ℕ) → next ≡ suc i → next ≤ last + 1 → Stretching next ys → Lowers last (Longer period cycle ys i) ys zs → Stretching i zs
    stretching_more i next ys zs e l a b = record {
      lowers = lowers_then (Since next) (Longer period cycle ys i) (Since i) xs ys zs
          (λ x y (j, m, o, (f, g)). elim (le_or_lt next j) [
            | inl h ↦ inl (j, h, o, (f, g))
            | inr h ↦ let d : j ≡ i = omega arith in inr (omega arith, omega (arith, ap (entry xs) d, a.under i (omega arith)))
          ])
          (λ x y (j, m, o, q). (j, omega arith, o, q))
          (λ x y (f, g). (i, omega arith, omega arith, (f, omega (arith, a.under i (omega arith)))))
          a.lowers b;
      under = λ j m. lowers_keep (Longer period cycle ys i) ys zs i (λ x y (f, g). omega arith) b j m ∙ a.under j (omega arith);
    }

    pub stretching_all : (next n : ℕ) (ys : List ℕ) → next ≡ 0 → n ≡ last + 1 → Stretching next ys → Lowers last (Until More n) xs ys
    stretching_all next n ys e f a = lowers_same (Since next) (Until More n) xs ys
        (λ x y (i, l, q). (i, omega arith, omega arith, q))
        (λ x y (i, m, l, q). (i, omega arith, q))
        a.lowers
