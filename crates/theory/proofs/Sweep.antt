-- The sweep finds the lowest value in no guard, since it passes over values that are held; two guards that meet share the larger
-- of their lows. Without gaps the widths count each value once, and once more for each further holder. Assumes nothing.
use mathlib.Core.Path.{◌≡◌, sym, ◌∙◌}
use mathlib.Core.Bool.{Bool, true, false, not, ◌&&◌}
use mathlib.Core.Logic.{inl, inr}
use Prim.Native.Nat.{ℕ, zero, suc, ◌+◌, ◌-◌, ◌≤◌, ◌<◌, min, max}
use native.Mathlib.Omega.{arith}
use lib.Dec.{T, T_not, leb, leb→le, le→leb, ltb, ltb→lt, nltb→le}
use Rattle.laws.specs.Test.{pick, bit, none}
use Rattle.laws.specs.Sum.{sum}
use Rattle.laws.specs.Found.{Found, nobody, at, first, IsFirst}
use Rattle.laws.proofs.Test.{either, le_or_lt, and_left, and_right, and_both, and_fails_left, pick_yes, pick_no, bit_yes, bit_no, some_of, none_not, none_all}
use Rattle.laws.proofs.Sum.{sum_same, sum_zero, sum_one, sum_add, sum_swap, sum_last₀, term_le₀, at_most_one, at_least_two}
use Rattle.laws.proofs.First.{first_is}
use Rattle.theory.specs.Sweep.{choose, or_else, sweep, held_by, is_gap, meets, overlaps, widths}

choose_case : (b : Bool) (x y : Found) (A : Found → Type 0) → (T b → A x) → (T (not b) → A y) → A (choose b x y)
choose_case true x y A f g = f tt
choose_case false x y A f g = g tt

module _ (ok : ℕ → Bool) (low high : ℕ → ℕ) (m : ℕ) where
  -- the tests, short: for these children and guards
  abbrev held : ℕ → ℕ → Bool
  held = held_by ok low high m

  abbrev gap : ℕ → Bool
  gap = is_gap ok low high m

  abbrev meet : ℕ → ℕ → Bool
  meet = meets ok low high m

  abbrev overlap : Bool
  overlap = overlaps ok low high m

  held_of : (x i : ℕ) → T (ok i) → low i ≤ x → x ≤ high i → T (held x i)
  held_of x i o l h = and_both (ok i) _ o (and_both (leb (low i) x) (leb x (high i)) (le→leb (low i) x l) (le→leb x (high i) h))

  pub held_by_law : (x i : ℕ) → T (held x i) → T (ok i) × (low i ≤ x) × (x ≤ high i)
  held_by_law x i t =
      let r = and_right (ok i) (leb (low i) x && leb x (high i)) t in
      (and_left (ok i) _ t, leb→le (low i) x (and_left (leb (low i) x) _ r), leb→le x (high i) (and_right (leb (low i) x) (leb x (high i)) r))

  -- ---- gaps

  -- what a search among the children finds: any child that holds x
  abbrev pub Holder : ℕ → Found → Type 0
  Holder x nobody = (i : ℕ) → i < m → T (not (held x i))
  Holder x (at i) = (i < m) × T (held x i)

  pub first_holder : (x : ℕ) → Holder x (first (held x) 0 m)
  unfolding IsFirst
  first_holder x = go (first (held x) 0 m) (first_is (held x) 0 m)
    where
      go : (o : Found) → IsFirst (held x) 0 m o → Holder x o
      go nobody h = λ i l. h i (omega arith) (omega arith)
      go (at i) h = (omega (arith, h.1), h.2)

  module _ (find : ℕ → Found) (finds : (x : ℕ) → Holder x (find x)) (top : ℕ) where
    sweeps : (k x : ℕ) → top < x + k → ((y : ℕ) → y < x → T (not (gap y))) → IsFirst gap 0 (suc top) (sweep find high top k x)
    unfolding sweep IsFirst
    sweeps zero x l h = λ y a b. h y (omega arith)
    sweeps (suc k) x l h =
        choose_case (ltb top x) nobody (or_else (find x) x (λ i. sweep find high top k (suc (high i)))) (IsFirst gap 0 (suc top))
        (λ t y a b. h y (omega (arith, ltb→lt top x t)))
        (λ t. go (find x) (finds x) (nltb→le top x t) (λ y. sweeps k y))
      where
        go : (o : Found) → Holder x o → x ≤ top
            → ((y : ℕ) → top < y + k → ((z : ℕ) → z < y → T (not (gap z))) → IsFirst gap 0 (suc top) (sweep find high top k y))
            → IsFirst gap 0 (suc top) (or_else o x (λ i. sweep find high top k (suc (high i))))
        go nobody f s on = (omega arith, omega arith, none_all (held x) m f, λ y a b. h y b)
        go (at i) f s on =
            let (o, a, b) = held_by_law x i f.1 in
            on (suc (high i)) (omega arith)
            (λ y c. elim (le_or_lt x y) [ inl d ↦ none_not (held y) m i f.0 (held_of y i o (omega arith) (omega arith)) | inr d ↦ h y d ])

    -- the sweep from 0 finds the first value up to top that no child holds, if there is one
    pub sweep_is : IsFirst gap 0 (suc top) (sweep find high top (suc top) 0)
    sweep_is = sweeps (suc top) 0 (omega arith) (λ y l. absurd (omega arith))

  -- ---- overlaps

  -- a value that two children hold
  pub record Overlap : Type 0 where
    pub i : ℕ
    pub j : ℕ
    pub x : ℕ
    pub i_child : i < m
    pub order : j < i
    pub in_i : T (held x i)
    pub in_j : T (held x j)

  pub overlaps_yes : ((i : ℕ) → i < m → T (ok i) → low i ≤ high i) → T overlap → Overlap
  overlaps_yes range t =
      let (i, l, a) = some_of (λ i. ok i && not (none (λ j. ok j && meet i j) i)) m t in
      let (j, g, b) = some_of (λ j. ok j && meet i j) i (and_right (ok i) _ a) in
      let c = and_left (ok i) _ a in
      let d = and_left (ok j) _ b in
      let e = and_right (ok j) (meet i j) b in
      let u = leb→le (low i) (high j) (and_left (leb (low i) (high j)) _ e) in
      let v = leb→le (low j) (high i) (and_right (leb (low i) (high j)) _ e) in
      let x = max (low i) (low j) in
      record {
        i = i;
        j = j;
        x = x;
        i_child = l;
        order = g;
        in_i = held_of x i c (omega arith) (omega (arith, range i l c));
        in_j = held_of x j d (omega arith) (omega (arith, range j (omega arith) d));
      }

  pub overlaps_no : T (not overlap) → Overlap → ⊥
  overlaps_no t o =
      let (a, b, c) = held_by_law o.x o.i o.in_i in
      let (d, e, f) = held_by_law o.x o.j o.in_j in
      let y = and_both (leb (low o.i) (high o.j)) _ (le→leb (low o.i) (high o.j) (omega arith)) (le→leb (low o.j) (high o.i) (omega arith)) in
      let z = none_not (λ j. ok j && meet o.i j) o.i o.j o.order (and_both (ok o.j) _ d y) in
      T_not overlap t (none_not (λ i. ok i && not (none (λ j. ok j && meet i j) i)) m o.i o.i_child (and_both (ok o.i) _ a z))

  -- without overlaps a value has one holder at most
  pub one_holder : T (not overlap) → (x i j : ℕ) → i < m → j < m → T (held x i) → T (held x j) → i ≡ j
  one_holder t x i j l g a b = elim (le_or_lt i j) [
    | inl h ↦ elim (le_or_lt j i) [
      | inl k ↦ omega arith
      | inr k ↦ absurd (overlaps_no t (record { i = j; j = i; x = x; i_child = g; order = k; in_i = b; in_j = a }))
    ]
    | inr h ↦ absurd (overlaps_no t (record { i = i; j = j; x = x; i_child = l; order = h; in_i = a; in_j = b }))
  ]

  -- ---- the same by the sum of the widths, where there is no gap

  -- how many children hold x
  abbrev holders : ℕ → ℕ
  holders x = sum (λ i. bit (held x i)) 0 m

  -- how many of the values below n child i holds
  width_below : (i n : ℕ) → T (ok i) → sum (λ x. bit (held x i)) 0 n ≡ min n (suc (high i)) - low i
  unfolding sum
  width_below i zero o = omega arith
  width_below i (suc n) o =
      let r = sum_last₀ (λ x. bit (held x i)) n in
      let q = width_below i n o in
      elim (either (held n i)) [
        | inl y ↦ omega (arith, r, q, bit_yes (held n i) y, held_by_law n i y)
        | inr y ↦ elim (le_or_lt (low i) n) [
          | inl a ↦ elim (le_or_lt n (high i)) [
            | inl b ↦ absurd (T_not (held n i) y (held_of n i o a b))
            | inr b ↦ omega (arith, r, q, bit_no (held n i) y)
          ]
          | inr a ↦ omega (arith, r, q, bit_no (held n i) y)
        ]
      ]

  width_is : (top i : ℕ) → (T (ok i) → high i ≤ top) → pick (ok i) (suc (high i) - low i) 0 ≡ sum (λ x. bit (held x i)) 0 (suc top)
  width_is top i h = elim (either (ok i)) [
    | inl o ↦ omega (arith, width_below i (suc top) o, pick_yes (ok i) (suc (high i) - low i) 0 o, h o)
    | inr o ↦
        let z = sum_zero (λ x. bit (held x i)) 0 (suc top) (λ x l. bit_no (held (0 + x) i) (and_fails_left (ok i) _ o)) in
        pick_no (ok i) (suc (high i) - low i) 0 o ∙ sym z
  ]

  -- no gap up to top, and no guard beyond
  module _ (top : ℕ) (highs : (i : ℕ) → i < m → T (ok i) → high i ≤ top) (full : (x : ℕ) → x ≤ top → T (not (gap x))) where
    some_holder : (x : ℕ) → x ≤ top → 1 ≤ holders x
    some_holder x l = let (i, g, t) = some_of (held x) m (full x l) in omega (arith, term_le₀ (λ i. bit (held x i)) m i g, bit_yes (held x i) t)

    -- the widths count every value, and every holder of it but one once more
    widths_are : widths ok low high m ≡ suc top + sum (λ x. holders x - 1) 0 (suc top)
    widths_are =
        sum_same (λ i. pick (ok i) (suc (high i) - low i) 0) (λ i. sum (λ x. bit (held x i)) 0 (suc top)) 0 0 m
        (λ i l. width_is top (0 + i) (highs (0 + i) (omega arith)))
        ∙ sum_swap (λ i x. bit (held x i)) 0 m 0 (suc top)
        ∙ sum_same holders (λ x. 1 + (holders x - 1)) 0 0 (suc top) (λ x l. omega (arith, some_holder (0 + x) (omega arith)))
        ∙ omega (arith, sum_add (λ x. 1) (λ x. holders x - 1) 0 (suc top), sum_one (λ x. 1) 0 (suc top) (λ i l. omega arith))

    pub widths_yes : T (not overlap) → widths ok low high m ≡ suc top
    widths_yes t =
        let z = sum_zero (λ x. holders x - 1) 0 (suc top) (λ x l. omega (arith, at_most_one (held (0 + x)) m (one_holder t (0 + x)))) in
        omega (arith, widths_are)

    pub widths_no : Overlap → suc top < widths ok low high m
    widths_no o =
        let (c, a, b) = held_by_law o.x o.i o.in_i in
        let two = at_least_two (held o.x) m o.i o.j o.i_child o.order o.in_i o.in_j in
        omega (arith, widths_are, term_le₀ (λ x. holders x - 1) (suc top) o.x (omega (arith, highs o.i o.i_child c)))
