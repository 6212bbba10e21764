-- Points decide every bound: in one run that attains the least, a window grows or is cut at each end to the edge of a
-- location, and what results is a point; and no point is below the least. Assumes nothing.
use mathlib.Core.Path.{◌≡◌, refl, sym, ap, ap₂, ◌∙◌, subst}
use mathlib.Core.Bool.{Bool, not}
use mathlib.Core.Logic.{◌⊎◌, inl, inr}
use Prim.Native.Nat.{ℕ, zero, suc, ◌+◌, ◌-◌, ◌*◌, ◌/◌, ◌%◌, ◌≤◌, ◌<◌}
use native.Mathlib.Nat.{zero-add, add-zero, le_refl, mod-lt, div-add-mod', mul-le-mul_right, zero-mul}
use native.Mathlib.Omega.{arith}
use lib.Dec.{T}
use lib.Arith.{digits_div, digits_mod}
use Rattle.laws.specs.Test.{any, bit}
use Rattle.laws.specs.Sum.{sum}
use Rattle.laws.proofs.Test.{either, le_or_lt, bit_yes, bit_no}
use Rattle.laws.proofs.Sum.{sum_const}
use Rattle.laws.proofs.Minimum.{minimum_le, minimum_at}
use Rattle.theory.specs.Grants.{count}
use Rattle.theory.specs.Bounds.{Least}
use Rattle.theory.specs.Tree.{Tree, Leaf, before, upto, start, end, Formed, own}
use Rattle.theory.specs.Cycles.{on_path, system, Choice, stream, cycles, cycle_least, least_of}
use Rattle.theory.specs.Points.{Above, self, leaf_below, rest, Point, empty, within, crosses}
use Rattle.theory.proofs.Grants.{count_split, count_same, count_le}
use Rattle.theory.proofs.Bounds.{least_grows}
use Rattle.theory.proofs.Paths.{before_root, before_child, on_path_law, ends_in_cycle, starts_in_cycle, some_tick}
use Rattle.theory.proofs.Cycles.{cons, cons_choice, inside, across, low_le, cycles_at, least_of_is}
use Rattle.theory.proofs.Runs.{sound}
use Rattle.theory.proofs.Above.{above_parent, above_trans, above_step, path, above_inside, above_upto, above_path, above_at, above_of, before_count, upto_count, from_count, leaf_above, leaf_below_of, leaf_below_is}
use Rattle.theory.proofs.Edges.{Slow, slow_from, Block, Decides, edges}

pub cycles_before : (P a b y : ℕ) → y < P → a * P ≤ b * P + y → a ≤ b
cycles_before P a b y h l = elim (le_or_lt a b) [ inl g ↦ g | inr g ↦ absurd (omega (arith, mul-le-mul_right P g)) ]

module _ (t : Tree) (formed : Formed t) (p : ℕ → Bool) where
  abbrev P : ℕ
  P = t.period

  abbrev falls : (v : ℕ) → 0 < v → v < t.size → t.parent v < v
  falls = formed.falls

  abbrev pub bound : ℕ → ℕ
  bound w = least_of (system t) p w

  bound_is : (w : ℕ) → Least (cycles (system t)) p w (bound w)
  bound_is = least_of_is (system t) (sound t formed) p

  pub bound_slow : Slow bound
  bound_slow a b l =
      let e : a + (b - a) ≡ b = omega arith in
      let r = least_grows (cycles (system t)) a (b - a) (bound_is a) (rw (← e) at (bound_is b)) in
      (omega (arith, r.0, ap bound e), omega (arith, r.1, ap bound e))

  -- ---- a location's own ticks: all pass or none

  pub own_yes : (v : ℕ) → T (p (t.queue v)) → own t p v ≡ t.ticks v
  own_yes v y = sum_const (bit (p (t.queue v))) 0 (t.ticks v) ∙ (ap (λ x. t.ticks v * x) (bit_yes (p (t.queue v)) y) ∙ omega arith)

  pub own_no : (v : ℕ) → T (not (p (t.queue v))) → own t p v ≡ 0
  own_no v y = sum_const (bit (p (t.queue v))) 0 (t.ticks v) ∙ (ap (λ x. t.ticks v * x) (bit_no (p (t.queue v)) y) ∙ omega arith)

  -- ---- from a's first tick to the cycle's end

  pub rest_count : (a l : ℕ) → Above t a l → Leaf t l → before t (own t p) a + count p (path t l) (start t a) (P - start t a) ≡ upto t (own t p) l
  rest_count a l h w =
      let z = starts_in_cycle t formed a (above_inside t falls l h w.0) in
      from_count t falls p l (P - start t a) (end t l) h w.0 (omega (arith, formed.whole l w)) ∙ upto_count t falls p l self w.0

  pub rest_le : (a l : ℕ) → Above t a l → Leaf t l → rest t p a ≤ upto t (own t p) l - before t (own t p) a
  rest_le a l h w =
      minimum_le (leaf_below t a) (λ l. upto t (own t p) l - before t (own t p) a) (P - start t a) t.size l w.0 (leaf_below_of t formed a l h w)

  pub rest_at : (a : ℕ) → a < t.size → (l : ℕ) × Leaf t l × Above t a l × (upto t (own t p) l - before t (own t p) a ≡ rest t p a)
  rest_at a s =
      let (l, w, h) = leaf_above t formed a s in
      let (x, i, b, e) =
      minimum_at (leaf_below t a) (λ l. upto t (own t p) l - before t (own t p) a) (P - start t a) t.size l w.0 (leaf_below_of t formed a l h w)
      (omega (arith, rest_count a l h w, count_le p (path t l) (start t a) (P - start t a))) in
      let (u, g) = leaf_below_is t formed a x s i b in
      (x, u, g, e)

  -- ---- counts along a run

  module _ (c : ℕ → ℕ) (words : Choice (system t) c) where
    -- the ticks that pass, before tick y of the run
    abbrev up_to : ℕ → ℕ
    up_to y = count p (stream (system t) c) 0 y

    split : (a b : ℕ) → up_to (a + b) ≡ up_to a + count p (stream (system t) c) a b
    split a b = rw (zero-add a) at (count_split p (stream (system t) c) 0 a b)

    up_to_slow : Slow up_to
    up_to_slow a b l =
        let e : a + (b - a) ≡ b = omega arith in
        let r = rw e at (split a (b - a)) in
        (omega (arith, r), omega (arith, r, count_le p (stream (system t) c) a (b - a)))

    in_cycle : (i y : ℕ) → y ≤ P → up_to (i * P + y) ≡ up_to (i * P) + count p (path t (c i)) 0 y
    in_cycle i y h =
        split (i * P) y
        ∙ ap (λ x. up_to (i * P) + x) (count_same p (stream (system t) c) (path t (c i)) (i * P) 0 y
        (λ j l.
        let g : 0 + j < P = omega arith in
        let e : i * P + j ≡ i * P + (0 + j) = omega arith in
        ap (stream (system t) c) e ∙ ap₂ (λ k r. path t (c k) r) (digits_div i g) (digits_mod i g)))

    at_start : {a : ℕ} (i : ℕ) → Above t a (c i) → up_to (i * P + start t a) ≡ up_to (i * P) + before t (own t p) a
    at_start {a} i h =
        let s = above_inside t falls (c i) h (words i).0 in
        in_cycle i (start t a) (omega (arith, starts_in_cycle t formed a s)) ∙ ap (λ x. up_to (i * P) + x) (before_count t falls p (c i) h (words i).0)

    at_end : {a : ℕ} (i : ℕ) → Above t a (c i) → up_to (i * P + end t a) ≡ up_to (i * P) + upto t (own t p) a
    at_end {a} i h =
        let s = above_inside t falls (c i) h (words i).0 in
        in_cycle i (end t a) (ends_in_cycle t formed a s) ∙ ap (λ x. up_to (i * P) + x) (upto_count t falls p (c i) h (words i).0)

    -- k whole cycles
    whole_cycles : (i k : ℕ) → up_to (i * P) + k * cycle_least (system t) p ≤ up_to ((i + k) * P)
    whole_cycles i zero = rw (add-zero i) (omega arith)
    whole_cycles i (suc k) =
        let e : (i + suc k) * P ≡ (i + k) * P + P = omega arith in
        omega (arith, ap up_to e, in_cycle (i + k) P (le_refl P), whole_cycles i k, low_le (system t) (sound t formed) p (c (i + k)) 0 P (words (i + k)))

    -- from a's first tick in cycle i to the cycle's end
    rest_low : {a : ℕ} (i : ℕ) → Above t a (c i) → up_to (i * P + start t a) + rest t p a ≤ up_to (suc i * P)
    rest_low {a} i h =
        let e : suc i * P ≡ i * P + end t (c i) = omega (arith, formed.whole (c i) (words i)) in
        omega (arith, at_start i h, at_end i self, ap up_to e, rest_le a (c i) h (words i), rest_count a (c i) h (words i))

    -- ---- edges

    -- an edge is the first tick of a location
    abbrev Edge : ℕ → Type 0
    Edge x = (i : ℕ) × (a : ℕ) × Above t a (c i) × (x ≡ i * P + start t a)

    -- and, above 0, the end of a location
    abbrev EndEdge : ℕ → Type 0
    EndEdge x = (j : ℕ) × (v : ℕ) × Above t v (c j) × (x ≡ j * P + end t v)

    edge_end : (x : ℕ) → Edge x → 0 < x → EndEdge x
    edge_end x (i, a, h, e) z = elim (le_or_lt a 0) [
      | inl y ↦ root i e (before_root t falls t.ticks a (omega arith))
      | inr y ↦
          let s = above_inside t falls (c i) h (words i).0 in
          (i, t.parent a, above_parent y h, omega (arith, before_child t falls t.ticks a y s))
    ]
      where
        root : (i : ℕ) → x ≡ i * P + start t a → start t a ≡ 0 → EndEdge x
        root zero e f = absurd (omega (arith, zero-mul P))
        root (suc i) e f = (i, c i, self, omega (arith, formed.whole (c i) (words i)))

    -- the location around tick y
    block : (y : ℕ) → Block up_to Edge (λ y. y / P * P) (λ y. y / P * P + P) y
    block y = record {
      lo = i * P + start t u;
      hi = i * P + end t u;
      lo_edge = (i, u, h, refl);
      hi_edge = next (above_step (c i) h);
      below = omega (arith, o.1, div-add-mod' y P);
      above = omega (arith, o.2, div-add-mod' y P);
      lower = omega arith;
      upper = omega (arith, ends_in_cycle t formed u o.0);
      flat = elim (either (p (t.queue u))) [
        | inl z ↦ inr (omega (arith, at_start i h, at_end i h, own_yes u z))
        | inr z ↦ inl (omega (arith, at_start i h, at_end i h, own_no u z))
      ];
    }
      where
        i : ℕ
        i = y / P

        u : ℕ
        u = on_path t (c i) (y % P)

        r : y % P < end t (c i)
        r = omega (arith, mod-lt y (some_tick t formed), formed.whole (c i) (words i))

        o : (u < t.size) × (start t u ≤ y % P) × (y % P < end t u)
        o = on_path_law t formed (suc (c i)) (c i) (y % P) (le_refl _) (words i).0 r

        h : Above t u (c i)
        h = above_of t falls (suc (c i)) (c i) (y % P) (le_refl _) (words i).0 r

        -- the next location on the path, or the next cycle's root
        next : (u ≡ c i) ⊎ ((b : ℕ) × Above t b (c i) × (0 < b) × (t.parent b ≡ u)) → Edge (i * P + end t u)
        next (inr (b, g, z, e)) = (i, b, g, omega (arith, before_child t falls t.ticks b z (above_inside t falls (c i) g (words i).0), ap (end t) e))
        next (inl e) =
            let (x, g, z) = first (c (suc i)) (words (suc i)).0 in
            (suc i, x, g, omega (arith, z, ap (end t) e, formed.whole (c i) (words i)))
          where
            first : (v : ℕ) → v < t.size → (x : ℕ) × Above t x v × (start t x ≡ 0)
            first v s =
                let q = above_of t falls (suc v) v 0 (le_refl _) s (omega (arith, formed.spends v s)) in
                let f = on_path_law t formed (suc v) v 0 (le_refl _) s (omega (arith, formed.spends v s)) in
                (on_path t v 0, q, omega (arith, f.1))

    -- ---- a window from edge to edge is a point, or more

    to_point : (s w K : ℕ) → w / P ≤ K → Decides up_to Edge (λ y. y / P * P) (λ y. y / P * P + P) s w
        → (n : ℕ) × (m : ℕ) × Point t p any any K n m × (m + (w - n) ≤ up_to (s + w) - up_to s)
    to_point s w K few d = go d.x_edge (edge_end d.e d.e_edge (omega (arith, d.some)))
      where
        Goal : Type 0
        Goal = (n : ℕ) × (m : ℕ) × Point t p any any K n m × (m + (w - n) ≤ up_to (s + w) - up_to s)

        finish : (n m : ℕ) → Point t p any any K n m → d.x + n ≡ d.e → up_to d.x + m ≤ up_to d.e → Goal
        finish n m q h g = let e : d.e - d.x ≡ n = omega arith in (n, m, q, omega (arith, rw e at d.value))

        -- in one cycle
        inner : (i a v : ℕ) → Above t a (c i) → Above t v (c i) → d.x ≡ i * P + start t a → d.e ≡ i * P + end t v → Goal
        inner i a v A B q r =
            let h : start t a < end t v = omega (arith, d.some) in
            let sv = above_inside t falls (c i) B (words i).0 in
            let on : on_path t v (start t a) ≡ a =
            sym (above_path t falls (c i) (start t a) B (words i).0 h)
            ∙ above_at t falls (c i) (start t a) A (words i).0 (le_refl _) (omega (arith, formed.spends a (above_inside t falls (c i) A (words i).0))) in
            let A' : Above t a v = subst (λ x. Above t x v) on (above_of t falls (suc v) v (start t a) (le_refl _) sv h) in
            finish (end t v - start t a) (upto t (own t p) v - before t (own t p) a) (within a v tt tt sv A' refl refl) (omega arith)
            (omega (arith, up_to_slow d.x d.e (omega (arith, d.some)), ap up_to q, ap up_to r, at_start i A, at_end i B))

        -- in two, with k between
        outer : (i k a v : ℕ) → k ≤ K → Above t a (c i) → Above t v (c (suc i + k)) → d.x ≡ i * P + start t a → d.e ≡ (suc i + k) * P + end t v → Goal
        outer i k a v l A B q r =
            let sa = above_inside t falls (c i) A (words i).0 in
            finish (P - start t a + (k * P + end t v)) (rest t p a + (k * cycle_least (system t) p + upto t (own t p) v))
            (crosses a k v tt tt sa l (above_inside t falls (c (suc i + k)) B (words (suc i + k)).0) refl refl)
            (omega (arith, starts_in_cycle t formed a sa))
            (omega (arith, ap up_to q, ap up_to r, rest_low i A, whole_cycles (suc i) k, at_end (suc i + k) B))

        -- few cycles in a short window
        between : (i k j : ℕ) → s / P ≤ i → j ≤ (s + w) / P → j ≡ suc i + k → k ≤ K
        between i k j a b e =
            let h = cycles_before P k (w / P) (s % P + w % P - P) (omega (arith, mod-lt s (some_tick t formed), mod-lt w (some_tick t formed)))
            (omega (arith, div-add-mod' s P, div-add-mod' w P, div-add-mod' (s + w) P, mul-le-mul_right P a, mul-le-mul_right P b, ap (λ x. x * P) e)) in
            omega arith

        go : Edge d.x → EndEdge d.e → Goal
        go (i, a, A, q) (j, v, B, r) =
            let sa = starts_in_cycle t formed a (above_inside t falls (c i) A (words i).0) in
            let sv = above_inside t falls (c j) B (words j).0 in
            let lv = ends_in_cycle t formed v sv in
            let zv = formed.spends v sv in
            let a≤ = cycles_before P (s / P) i (start t a) sa (omega (arith, d.lower)) in
            let v≤ = cycles_before P j ((s + w) / P) (P - end t v) (omega arith) (omega (arith, d.upper)) in
            let i≤j = cycles_before P i j (end t v - 1) (omega arith) (omega (arith, d.some)) in
            elim (le_or_lt j i) [
              | inl g ↦ let e : j ≡ i = omega arith in inner i a v A (subst (λ x. Above t v (c x)) e B) q (r ∙ ap (λ x. x * P + end t v) e)
              | inr g ↦
                  let e : j ≡ suc i + (j - suc i) = omega arith in
                  outer i (j - suc i) a v (between i (j - suc i) j a≤ v≤ e) A (subst (λ x. Above t v (c x)) e B) q (r ∙ ap (λ x. x * P + end t v) e)
            ]

  -- ---- every length has a point that decides it

  -- the points that start with O and end with C decide every bound
  abbrev pub Deciding : (ℕ → Bool) → (ℕ → Bool) → Type 0
  Deciding O C = (w K : ℕ) → w < suc K * P → (n : ℕ) × (m : ℕ) × Point t p O C K n m × (m + (w - n) ≤ bound w)

  pub points_decide : Deciding any any
  points_decide w K few = go (edges (up_to c words) (Edge c words) (λ y. y / P * P) (λ y. y / P * P + P) (up_to_slow c words) (block c words) s w)
    where
      m : Least (cycles (system t)) p w (bound w)
      m = bound_is w

      s : ℕ
      s = m.start

      c : ℕ → ℕ
      c = m.granted.chosen

      words : Choice (system t) c
      words = m.granted.words

      e : up_to c words (s + w) ≡ up_to c words s + bound w
      e = split c words s w ∙ ap (λ x. up_to c words s + x) (sym (count_same p m.stream (stream (system t) c) s s w (λ i l. m.granted.each (s + i))) ∙ m.met)

      go : (w ≤ up_to c words (s + w) - up_to c words s) ⊎ Decides (up_to c words) (Edge c words) (λ y. y / P * P) (λ y. y / P * P + P) s w
          → (n : ℕ) × (m : ℕ) × Point t p any any K n m × (m + (w - n) ≤ bound w)
      go (inl h) = (0, 0, empty refl refl, omega (arith, e))
      go (inr d) =
          let (n, x, q, l) = to_point c words s w K (cycles_before P (w / P) K (w - K * P) (omega (arith, some_tick t formed)) (omega (arith, div-add-mod' w P))) d in
          (n, x, q, omega (arith, e))

  -- ---- and no point is below

  -- the count of a point is that of a window
  module _ (O C : ℕ → Bool) (K n m : ℕ) where
    attained : Point t p O C K n m → bound n ≤ m
    unfolding sum
    attained (empty e f) = let y = bound_is n in omega (arith, y.met, count_le p y.stream y.start n)
    attained (within a v o q s h e f) =
        let (l, w, b) = leaf_above t formed v s in
        let A = above_trans h b in
        let x : start t a + n ≡ end t v = omega (arith, above_upto t falls t.ticks v h s) in
        omega (
          arith,
          (bound_is n).lower (stream (system t) (λ i. l)) (start t a) (record { chosen = λ i. l; words = λ i. w; each = λ n. refl }),
          inside (system t) (sound t formed) p (λ i. l) (start t a) n (omega (arith, ends_in_cycle t formed v s)),
          from_count t falls p l n (end t v) A w.0 x,
          upto_count t falls p l b w.0,
        )
    attained (crosses a k v o q sa g sv e f) =
        let (l, w, A, r) = rest_at a sa in
        let (x, i, b) = leaf_above t formed v sv in
        let (c, R, d) = cycles_at (system t) (sound t formed) p k (end t v) (ends_in_cycle t formed v sv) in
        let z = starts_in_cycle t formed a sa in
        omega (
          arith,
          (bound_is n).lower (stream (system t) (cons l c)) (start t a) (record { chosen = cons l c; words = cons_choice (system t) l c w R; each = λ n. refl }),
          ap (count p (stream (system t) (cons l c)) (start t a)) e,
          across (system t) (sound t formed) p (cons l c) (start t a) (P - start t a) (k * P + end t v) (omega arith),
          rest_count a l A w,
          r,
          d,
          low_le (system t) (sound t formed) p x 0 (end t v) i,
          upto_count t falls p x b i.0,
        )

    pub point_sound : Point t p O C K n m → (w : ℕ) → bound w ≤ m + (w - n)
    point_sound q w = omega (arith, attained q, slow_from bound bound_slow w n)

  -- so the bound of w ticks is the least of m + (w - n) over the points
  pub points : (O C : ℕ → Bool) → Deciding O C → (w K : ℕ) → w < suc K * P → (n : ℕ) × (m : ℕ) × Point t p O C K n m × (m + (w - n) ≡ bound w)
  points O C decide w K few = let (n, m, q, l) = decide w K few in (n, m, q, omega (arith, point_sound O C K n m q w))
