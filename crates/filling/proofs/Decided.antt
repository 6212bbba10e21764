-- From columns to bounds: no point that lowers the slice is below its bound, and every corner point of the lent tree has lowered its
-- entry, so after the two passes every entry is its window's least. Assumes nothing.
use mathlib.Core.Path.{◌≡◌, refl, sym, ap, subst, ◌∙◌}
use mathlib.Core.Bool.{Bool, not}
use mathlib.Core.List.{List}
use mathlib.Core.Logic.{inl, inr}
use Prim.Native.Nat.{ℕ, ◌+◌, ◌-◌, ◌*◌, ◌≤◌, ◌<◌, min}
use native.Mathlib.Omega.{arith}
use lib.Dec.{T, lt→ltb}
use Rattle.laws.specs.Test.{any}
use Rattle.laws.proofs.Test.{le_or_lt, and_left, and_both}
use Rattle.laws.proofs.Minimum.{minimum_default}
use Rattle.theory.specs.Tree.{Tree, upto, start, end, Formed, own}
use Rattle.theory.specs.Cycles.{system, cycle_least, from, least_of}
use Rattle.theory.specs.Points.{Above, self, below, rest, Point, empty, within, crosses}
use Rattle.theory.specs.Points as points
use Rattle.theory.specs.Filling.{filling}
use Rattle.theory.proofs.Paths.{before_root, some_tick}
use Rattle.theory.proofs.Above.{above_inside, above_upto}
use Rattle.theory.proofs.Period.{cycle_least_law}
use Rattle.theory.proofs.Points.{own_no, rest_le, bound}
use Rattle.theory.proofs.Rest.{rest_root}
use Rattle.theory.proofs.Corners.{corners_decide}
use Rattle.theory.proofs.Filled.{Lowered, may_lower, filled}
use Rattle.table.specs.Columns.{entry}
use Rattle.slice.specs.Changes.{Becomes, Until, Longer}
use Rattle.corners.specs.declared.lent.LentTree.{LentTree}
use Rattle.corners.specs.declared.columns.Columns.{Columns}
use Rattle.corners.specs.Lent.{flag, marked}
use Rattle.corners.specs.Trees.{tree_from, asked_by, Made}
use Rattle.filling.specs.Sets.{Inner, Across, Corners}
use Rattle.filling.proofs.Walking.{corners_long}
use Rattle.filling.proofs.Crossing.{Stretches, to_end, to_location, whole_length, ends_with_cycle}

module _ (t : LentTree) (k : Columns) (made : Made t k) where
  abbrev tree : Tree
  tree = tree_from t

  abbrev p : ℕ → Bool
  p = asked_by t

  abbrev n : ℕ
  n = t.locations

  abbrev period : ℕ
  period = t.period

  abbrev formed : Formed tree
  formed = t.lent.formed

  abbrev last : ℕ
  last = 2 * period - 1

  -- sums along a path never fall
  pub rises : (v a : ℕ) → v < n → Above tree a v → (entry k.begins a ≤ entry k.ends v) × (entry k.counts a ≤ entry k.counts v)
  rises v a l h =
      let s = above_inside tree formed.falls v h l in
      (omega (arith, made.ends v l, made.begins a s, above_upto tree formed.falls (entry t.ticks) v h l), omega (arith, made.counts v l, made.counts a s, above_upto tree formed.falls (own tree p) v h l))

  -- ---- what the marks say

  opening : (a : ℕ) → a < n → T (marked k.opens a) → T (points.opens tree p a)
  opening a s m = subst T (made.opens a s) m

  opened : (a : ℕ) → a < n → T (points.opens tree p a) → T (marked k.opens a)
  opened a s y = subst T (sym (made.opens a s)) y

  closing : (v : ℕ) → v < n → T (marked k.closes v) → T (points.closes tree p v)
  closing v l m = and_left (points.closes tree p v) _ (subst T (made.closes v l) m)

  closed : (v : ℕ) → v < n → T (points.closes tree p v) → end tree v < period → T (marked k.closes v)
  closed v l y h = subst T (sym (made.closes v l)) (and_both (points.closes tree p v) _ y (lt→ltb (entry k.ends v) period (omega (arith, made.ends v l))))

  -- a location at which a corner ends does not pass
  no_own : (v : ℕ) → T (points.closes tree p v) → own tree p v ≡ 0
  no_own v y = own_no tree formed p v (and_left (not (p (flag t.flags v))) _ y)

  -- the root's rest is a whole cycle's
  root_is : entry k.rests 0 ≡ cycle_least (system tree) p
  root_is = made.rests 0 formed.root ∙ rest_root tree formed p

  -- ---- no point is below its bound

  abbrev Crossed : ℕ → ℕ → Type 0
  Crossed = Until (Across t k) n

  abbrev Within : ℕ → ℕ → Type 0
  Within = Until (Inner t k) n

  crossed_sound : (x y : ℕ) → Crossed x y → Stretches tree formed p x y
  crossed_sound x y (a, s, (_, inl (f, g))) =
      let f' : x ≡ period - start tree a = omega (arith, made.begins a s) in
      let g' : y ≡ rest tree p a = g ∙ made.rests a s in
      rw (f', g') (to_end tree formed p a s)
  crossed_sound x y (a, s, (_, inr (v, l, (m, (f, g))))) =
      let f' : x ≡ period - start tree a + end tree v = omega (arith, made.begins a s, made.ends v l, made.begins v l) in
      let g' : y ≡ rest tree p a + upto tree (own tree p) v = omega (arith, made.rests a s, made.counts v l, no_own v (closing v l m)) in
      rw (f', g') (to_location tree formed p a v s l)

  within_sound : (x y : ℕ) → Within x y → bound tree formed p (min x last) ≤ y
  within_sound x y (v, l, (m, (a, i, (o, (f, g))))) =
      let s = above_inside tree formed.falls v i l in
      let z = closing v l m in
      may_lower tree formed p (points.opens tree p) (points.closes tree p) 1 last x y
      (within a v (opening a s o) z l i (omega (arith, made.begins a s, made.ends v l, made.begins v l)) (omega (arith, made.counts v l, made.counts a s, no_own v z)))

  -- ---- so the slice becomes the bounds

  module _ (vs xs us : List ℕ) (f : Becomes last (λ i. i) vs xs) (c : Corners t k last xs us) where
    longer_sound : (x y : ℕ) → Until (Longer period (entry k.rests 0) c.crossed) (last + 1) x y → bound tree formed p (min x last) ≤ y
    longer_sound x y (i, l, (g, h)) =
        rw (g, h)
        (omega (
          arith,
          root_is,
          c.crosses.sound (λ j. bound tree formed p (min (j + period) last) - cycle_least (system tree) p)
              (λ x y m.
              let d : min (min x last + period) last ≡ min (x + period) last = omega arith in
              omega (arith, ap (bound tree formed p) d, (crossed_sound x y m).1))
              (λ j o. omega (arith, f.each j o, whole_length tree formed p j)) i (omega arith),
        ))

    -- a point that is met across is met with a whole cycle more
    longer_met : (x y : ℕ) → entry c.crossed (min x last) ≤ y → entry us (min (x + period) last) ≤ y + cycle_least (system tree) p
    longer_met x y h =
        let d : min (min x last + period) last ≡ min (x + period) last = omega arith in
        omega (
          arith,
          root_is,
          ap (entry c.stretched) d,
          c.stays.falls (min (x + period) last),
          c.stretches.met (min x last + period) _ (min x last, omega arith, (refl, refl)),
        )

    stays_met : (x y : ℕ) → entry c.crossed (min x last) ≤ y → entry us (min x last) ≤ y
    stays_met x y h = omega (arith, c.stretches.falls (min x last), c.stays.falls (min x last))

    end_met : (a : ℕ) → a < n → T (points.opens tree p a) → entry c.crossed (min (period - start tree a) last) ≤ rest tree p a
    end_met a s y = c.crosses.met (period - start tree a) (rest tree p a) (a, s, (opened a s y, inl (omega (arith, made.begins a s), sym (made.rests a s))))

    location_met : (a v : ℕ) → a < n → v < n → T (points.opens tree p a) → T (points.closes tree p v) → end tree v < period
        → entry c.crossed (min (period - start tree a + end tree v) last) ≤ rest tree p a + upto tree (own tree p) v
    location_met a v s l y z h =
        c.crosses.met (period - start tree a + end tree v) (rest tree p a + upto tree (own tree p) v)
        (a, s, (opened a s y, inr (v, l, (closed v l z h, (omega (arith, made.begins a s, made.ends v l, made.begins v l), omega (arith, made.rests a s, made.counts v l, no_own v z))))))

    every : (x y : ℕ) → Point tree p (points.opens tree p) (points.closes tree p) 1 x y → entry us (min x last) ≤ y
    every x y (empty g h) = let d : min x last ≡ 0 = omega arith in rw d (omega (arith, h, c.stays.falls 0, c.stretches.falls 0, c.crosses.falls 0, f.each 0 (omega arith)))
    every x y (within a v g h l i d m) =
        let s = above_inside tree formed.falls v i l in
        elim (le_or_lt period (end tree v)) [
          | inl w ↦
              let leaf = ends_with_cycle tree formed v l w in
              let t : x ≡ period - start tree a = omega (arith, formed.whole v leaf) in
              rw t (stays_met _ y (omega (arith, end_met a s g, rest_le tree formed p a v i leaf)))
          | inr w ↦ c.stays.met x y (
            v,
            l,
            (closed v l h w, (a, i, (opened a s g, (omega (arith, made.begins a s, made.ends v l), omega (arith, made.counts v l, made.counts a s, no_own v h))))),
          )
        ]
    every x y (crosses a j v g h s w l d m) = elim (le_or_lt period (end tree v)) [
      | inl u ↦
          let leaf = ends_with_cycle tree formed v l u in
          let whole = formed.whole v leaf in
          let least = (cycle_least_law tree formed p).lower v leaf in
          elim (le_or_lt j 0) [
            | inl z ↦
                let i : j ≡ 0 = omega arith in
                let q : x ≡ period - start tree a + period = omega (arith, ap (λ i. i * period) i) in
                rw q (omega (arith, longer_met _ _ (end_met a s g)))
            | inr z ↦
                let i : j ≡ 1 = omega arith in
                let q : min x last ≡ min (period - start tree 0 + period) last = omega (arith, ap (λ i. i * period) i, before_root tree formed.falls (entry t.ticks) 0 refl) in
                rw q (omega (arith, longer_met _ _ (end_met 0 formed.root tt), rest_root tree formed p, ap (λ i. i * cycle_least (system tree) p) i))
          ]
      | inr u ↦ elim (le_or_lt j 0) [
        | inl z ↦
            let i : j ≡ 0 = omega arith in
            let q : x ≡ period - start tree a + end tree v = omega (arith, ap (λ i. i * period) i) in
            rw q (omega (arith, stays_met _ _ (location_met a v s l g h u)))
        | inr z ↦
            let i : j ≡ 1 = omega arith in
            let q : x ≡ period - start tree a + end tree v + period = omega (arith, ap (λ i. i * period) i) in
            rw q (omega (arith, longer_met _ _ (location_met a v s l g h u), ap (λ i. i * cycle_least (system tree) p) i))
      ]
    ]

  pub all_leasts : (vs xs us zs : List ℕ) → Becomes last (λ i. i) vs xs → Corners t k last xs us
      → Becomes last (filling (entry us) last) us zs → Becomes last (least_of (system tree) p) vs zs
  all_leasts vs xs us zs f c g = record {
    long = g.long ∙ (corners_long c ∙ f.long);
    each = λ w l. g.each w l ∙ filled tree formed p (points.opens tree p) (points.closes tree p) 1 last (corners_decide tree formed p) (omega (arith, some_tick tree formed)) (entry us) low w l;
    later = λ w l. g.later w l ∙ (c.stays.later w l ∙ (c.stretches.later w l ∙ (c.crosses.later w l ∙ f.later w l)));
  }
    where
      low : Lowered tree formed p (points.opens tree p) (points.closes tree p) 1 last (entry us)
      low = record {
        not_below =
            c.stays.sound (bound tree formed p) within_sound
            (c.stretches.sound (bound tree formed p) (longer_sound vs xs us f c)
            (c.crosses.sound (bound tree formed p) (λ x y m. (crossed_sound x y m).0)
            (λ w l. omega (arith, f.each w l, minimum_default any (λ s. from (system tree) p s w) w period))));
        every = every vs xs us f c;
      }
