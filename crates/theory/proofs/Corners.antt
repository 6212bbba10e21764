-- Corners are enough: a point's start moves up over what does not pass and down over what passes, its end the other way
-- round, and each move gives a point that is as good. Assumes nothing.
use mathlib.Core.Path.{◌≡◌, refl, sym, ap, subst}
use mathlib.Core.Bool.{Bool, not, ◌&&◌}
use mathlib.Core.Logic.{◌⊎◌, inl, inr}
use Prim.Native.Nat.{ℕ, zero, suc, ◌+◌, ◌-◌, ◌*◌, ◌≤◌, ◌<◌}
use native.Mathlib.Nat.{le_refl, zero-mul}
use native.Mathlib.Omega.{arith}
use lib.Dec.{T, eqb}
use Rattle.laws.specs.Test.{any, none}
use Rattle.laws.proofs.Test.{either, le_or_lt, and_left, and_right, and_both, some_of, or_left, or_right}
use Rattle.theory.specs.Tree.{Tree, is_child, Child, before, upto, start, end, Formed, own}
use Rattle.theory.specs.Cycles.{system, cycle_least}
use Rattle.theory.specs.Points.{Above, self, below, rest, Point, empty, within, crosses, opens, closes}
use Rattle.theory.proofs.Paths.{before_root, before_child, child_parent, child_below, starts_in_cycle}
use Rattle.theory.proofs.Above.{above_child, above_trans, above_step, above_inside, above_upto, root_above}
use Rattle.theory.proofs.Period.{cycle_least_law}
use Rattle.theory.proofs.Points.{own_yes, own_no, rest_le, rest_at, Deciding, points_decide}
use Rattle.theory.proofs.Rest.{rest_root}

module _ (t : Tree) (formed : Formed t) (p : ℕ → Bool) where
  abbrev P : ℕ
  P = t.period

  abbrev pass : ℕ → Bool
  pass v = p (t.queue v)

  abbrev least : ℕ
  least = cycle_least (system t) p

  -- the counts before v and up to its end
  abbrev lo : ℕ → ℕ
  lo v = before t (own t p) v

  abbrev hi : ℕ → ℕ
  hi v = upto t (own t p) v

  child_lo : (v : ℕ) → 0 < v → v < t.size → (lo v ≡ hi (t.parent v)) × (start t v ≡ end t (t.parent v))
  child_lo v z s = (before_child t formed.falls (own t p) v z s, before_child t formed.falls t.ticks v z s)

  root_lo : (lo 0 ≡ 0) × (start t 0 ≡ 0)
  root_lo = (before_root t formed.falls (own t p) 0 refl, before_root t formed.falls t.ticks 0 refl)

  from_root : (v : ℕ) → v < t.size → Above t 0 v
  from_root v s = root_above t formed.falls (suc v) v (le_refl _) s

  -- some point is as good as one of length x and count y
  abbrev Some : (ℕ → Bool) → (ℕ → Bool) → ℕ → ℕ → ℕ → Type 0
  Some O C K x y = (n : ℕ) × (m : ℕ) × Point t p O C K n m × (m ≤ y) × (m + x ≤ y + n)

  -- and as good as what is no better
  weaken : (O C : ℕ → Bool) (K x y x' y' : ℕ) → y ≤ y' → y + x' ≤ y' + x → Some O C K x y → Some O C K x' y'
  weaken O C K x y x' y' a b (n, m, q, c, d) = (n, m, q, omega arith, omega arith)

  -- ---- the start

  -- up, over what does not pass
  grow_start : (k a : ℕ) → a < k → a < t.size → T (not (pass a)) → (b : ℕ) × Above t b a × T (opens t p b) × (lo b ≡ lo a)
  grow_start zero a l s n = absurd (omega arith)
  grow_start (suc k) a l s n = elim (le_or_lt a 0) [
    | inl z ↦ let e : a ≡ 0 = omega arith in (a, self, or_left (eqb a 0) _ (subst (λ x. T (eqb x 0)) (sym e) tt), refl)
    | inr z ↦
        let f = formed.falls a z s in
        elim (either (pass (t.parent a))) [
          | inl y ↦ (a, self, or_right (eqb a 0) _ (and_both (not (pass a)) _ n y), refl)
          | inr y ↦
              let (b, h, o, e) = grow_start k (t.parent a) (omega arith) (omega arith) y in
              (b, below a z h, o, omega (arith, child_lo a z s, own_no t formed p (t.parent a) y))
        ]
  ]

  -- down, over what passes: to v's end, or to a start that is as good
  abbrev CutStart : ℕ → ℕ → Type 0
  CutStart a v = (hi v + start t a ≡ lo a + end t v) ⊎ ((b : ℕ) × Above t b v × T (opens t p b) × (lo b + start t a ≡ lo a + start t b) × (start t a ≤ start t b))

  cut_start : (k a v : ℕ) → t.size ≤ a + k → Above t a v → v < t.size → T (pass a) → CutStart a v
  cut_start zero a v l h s y = absurd (omega (arith, above_inside t formed.falls v h s))
  cut_start (suc k) a v l h s y = go (above_step v h) (λ b. cut_start k b v)
    where
      go : (a ≡ v) ⊎ ((b : ℕ) × Above t b v × (0 < b) × (t.parent b ≡ a))
          → ((b : ℕ) → t.size ≤ b + k → Above t b v → v < t.size → T (pass b) → CutStart b v) → CutStart a v
      go (inl e) ih = inl (omega (arith, ap hi e, ap (end t) e, own_yes t formed p a y))
      go (inr (b, i, z, e)) ih =
          let sb = above_inside t formed.falls v i s in
          let (q, r) = child_lo b z sb in
          let f = ap hi e in
          let g = ap (end t) e in
          elim (either (pass b)) [
            | inl x ↦ elim (ih b (omega (arith, formed.falls b z sb)) i s x) [
              | inl c ↦ inl (omega (arith, own_yes t formed p a y))
              | inr (d, j, o, u, w) ↦ inr (d, j, o, omega (arith, own_yes t formed p a y), omega arith)
            ]
            | inr x ↦
                inr (b, i, or_right (eqb b 0) _ (and_both (not (pass b)) _ x (subst (λ u. T (pass u)) (sym e) y)), omega (arith, own_yes t formed p a y), omega arith)
          ]

  open_within : (K a v : ℕ) → v < t.size → Above t a v → Some (opens t p) any K (end t v - start t a) (hi v - lo a)
  open_within K a v s h = elim (either (pass a)) [
    | inl y ↦ elim (cut_start t.size a v (omega arith) h s y) [
      | inl c ↦ (0, 0, empty refl refl, omega arith, omega arith)
      | inr (b, i, o, e, g) ↦
          let f = above_upto t formed.falls t.ticks v i s in
          let d = above_upto t formed.falls (own t p) v i s in
          (end t v - start t b, hi v - lo b, within b v o tt s i refl refl, omega arith, omega arith)
    ]
    | inr y ↦
        let sa = above_inside t formed.falls v h s in
        let (b, i, o, e) = grow_start (suc a) a (le_refl _) sa y in
        let f = above_upto t formed.falls t.ticks a i sa in
        (end t v - start t b, hi v - lo b, within b v o tt s (above_trans i h) refl refl, omega arith, omega arith)
  ]

  -- from a cycle's start on
  open_root : (K k v : ℕ) → k ≤ K → v < t.size → Some (opens t p) any K (k * P + end t v) (k * least + hi v)
  open_root K zero v l s = (
    end t v - start t 0,
    hi v - lo 0,
    within 0 v tt tt s (from_root v s) refl refl,
    omega (arith, zero-mul P, zero-mul least),
    omega (arith, zero-mul P, zero-mul least, root_lo),
  )
  open_root K (suc j) v l s = (
    P - start t 0 + (j * P + end t v),
    rest t p 0 + (j * least + hi v),
    crosses 0 j v tt tt formed.root (omega arith) s refl refl,
    omega (arith, rest_root t formed p),
    omega (arith, rest_root t formed p, root_lo),
  )

  open_crosses : (K a k v : ℕ) → a < t.size → k ≤ K → v < t.size → Some (opens t p) any K (P - start t a + (k * P + end t v)) (rest t p a + (k * least + hi v))
  open_crosses K a k v sa l sv =
      let (x, w, h, e) = rest_at t formed p a sa in
      let f = formed.whole x w in
      elim (either (pass a)) [
        | inl y ↦ elim (cut_start t.size a x (omega arith) h w.0 y) [
          | inl c ↦
              weaken (opens t p) any K (k * P + end t v) (k * least + hi v) _ _ (omega arith) (omega (arith, starts_in_cycle t formed a sa)) (open_root K k v l sv)
          | inr (b, i, o, g, d) ↦
              let r = rest_le t formed p b x i w in
              let q = above_upto t formed.falls (own t p) x i w.0 in
              let sb = above_inside t formed.falls x i w.0 in
              let u = starts_in_cycle t formed b sb in
              (P - start t b + (k * P + end t v), rest t p b + (k * least + hi v), crosses b k v o tt sb l sv refl refl, omega arith, omega arith)
        ]
        | inr y ↦
            let (b, i, o, g) = grow_start (suc a) a (le_refl _) sa y in
            let r = rest_le t formed p b x (above_trans i h) w in
            let d = above_upto t formed.falls t.ticks a i sa in
            let sb = above_inside t formed.falls a i sa in
            (P - start t b + (k * P + end t v), rest t p b + (k * least + hi v), crosses b k v o tt sb l sv refl refl, omega arith, omega arith)
      ]

  -- ---- the end

  -- up, over what passes: to a's first tick, or to an end that is as good
  abbrev CutEnd : ℕ → ℕ → Type 0
  CutEnd a v = (hi v + start t a ≡ lo a + end t v) ⊎ ((u : ℕ) × Above t a u × (u < t.size) × T (not (pass u)) × (hi u + end t v ≡ hi v + end t u) × (end t u ≤ end t v))

  cut_end : {a : ℕ} (v : ℕ) → Above t a v → v < t.size → T (pass v) → CutEnd a v
  cut_end v self s y = inl (omega (arith, own_yes t formed p v y))
  cut_end _ (below v z h) s y =
      let f = formed.falls v z s in
      let (q, r) = child_lo v z s in
      elim (either (pass (t.parent v))) [
        | inl x ↦ elim (cut_end (t.parent v) h (omega arith) x) [
          | inl c ↦ inl (omega (arith, own_yes t formed p v y))
          | inr (u, i, su, n, e, g) ↦ inr (u, i, su, n, omega (arith, own_yes t formed p v y), omega arith)
        ]
        | inr x ↦ inr (t.parent v, h, omega arith, x, omega (arith, own_yes t formed p v y), omega arith)
      ]

  -- down, over what does not pass
  grow_end : (k v : ℕ) → t.size ≤ v + k → v < t.size → T (not (pass v)) → (u : ℕ) × Above t v u × (u < t.size) × T (closes t p u) × (hi u ≡ hi v)
  grow_end zero v l s n = absurd (omega arith)
  grow_end (suc k) v l s n = elim (either (none (λ u. is_child t v u && not (pass u)) t.size)) [
    | inl y ↦ (v, self, s, and_both (not (pass v)) _ n y, refl)
    | inr y ↦
        let (u, su, b) = some_of (λ u. is_child t v u && not (pass u)) t.size y in
        let c : Child t v u = (su, and_left (is_child t v u) _ b) in
        let x = and_right (is_child t v u) _ b in
        let z = child_below t v u c in
        let e = child_parent t v u c in
        let (w, h, sw, d, q) = grow_end k u (omega (arith, formed.falls u z su)) su x in
        (w, above_child t v u c h, sw, d, omega (arith, child_lo u z su, ap hi e, own_no t formed p u x))
  ]

  close_within : (K a v : ℕ) → T (opens t p a) → v < t.size → Above t a v → Some (opens t p) (closes t p) K (end t v - start t a) (hi v - lo a)
  close_within K a v o s h = elim (either (pass v)) [
    | inl y ↦ elim (cut_end v h s y) [
      | inl c ↦ (0, 0, empty refl refl, omega arith, omega arith)
      | inr (u, i, su, n, e, g) ↦
          let d = above_upto t formed.falls (own t p) u i su in
          finish u i su n (omega arith) (omega (arith, above_upto t formed.falls t.ticks u i su))
    ]
    | inr n ↦ finish v h s n (le_refl _) (le_refl _)
  ]
    where
      finish : (u : ℕ) → Above t a u → u < t.size → T (not (pass u)) → hi u - lo a ≤ hi v - lo a → hi u - lo a + (end t v - start t a) ≤ hi v - lo a + (end t u - start t a)
          → Some (opens t p) (closes t p) K (end t v - start t a) (hi v - lo a)
      finish u i su n b c =
          let (w, j, sw, d, q) = grow_end t.size u (omega arith) su n in
          let e = above_upto t formed.falls t.ticks w j sw in
          let f : hi w - lo a ≡ hi u - lo a = ap (λ x. x - lo a) q in
          (end t w - start t a, hi w - lo a, within a w o d sw (above_trans i j) refl refl, omega arith, omega arith)

  -- where the whole way from the root is cut off, the end of the cycle before
  close_end : (K k a v : ℕ) → T (opens t p a) → a < t.size → k ≤ K → v < t.size → Some (opens t p) (closes t p) K (P - start t a + k * P) (rest t p a + k * least)
      → Some (opens t p) (closes t p) K (P - start t a + (k * P + end t v)) (rest t p a + (k * least + hi v))
  close_end K k a v o sa l s prev = elim (either (pass v)) [
    | inl y ↦ elim (cut_end v (from_root v s) s y) [
      | inl c ↦
          weaken (opens t p) (closes t p) K (P - start t a + k * P) (rest t p a + k * least) _ _ (omega arith) (omega (arith, root_lo)) prev
      | inr (u, i, su, n, e, g) ↦ finish u su n (omega arith) (omega arith)
    ]
    | inr n ↦ finish v s n (le_refl _) (le_refl _)
  ]
    where
      finish : (u : ℕ) → u < t.size → T (not (pass u)) → hi u ≤ hi v → hi u + end t v ≤ hi v + end t u
          → Some (opens t p) (closes t p) K (P - start t a + (k * P + end t v)) (rest t p a + (k * least + hi v))
      finish u su n b c =
          let (w, j, sw, d, q) = grow_end t.size u (omega arith) su n in
          let e = above_upto t formed.falls t.ticks w j sw in
          (P - start t a + (k * P + end t w), rest t p a + (k * least + hi w), crosses a k w o d sa l sw refl refl, omega arith, omega arith)

  close_crosses : (K k a v : ℕ) → T (opens t p a) → a < t.size → k ≤ K → v < t.size
      → Some (opens t p) (closes t p) K (P - start t a + (k * P + end t v)) (rest t p a + (k * least + hi v))
  close_crosses K zero a v o sa l s =
      let (x, w, h, e) = rest_at t formed p a sa in
      close_end K 0 a v o sa l s
      (weaken (opens t p) (closes t p) K (end t x - start t a) (hi x - lo a) _ _ (omega arith) (omega (arith, formed.whole x w, zero-mul P)) (close_within K a x o w.0 h))
  close_crosses K (suc j) a v o sa l s =
      let c = cycle_least_law t formed p in
      let x = c.leaf in
      close_end K (suc j) a v o sa l s
      (weaken (opens t p) (closes t p) K (P - start t a + (j * P + end t x)) (rest t p a + (j * least + hi x)) _ _
      (omega (arith, c.met)) (omega (arith, c.met, formed.whole x c.leaf_is_leaf))
      (close_crosses K j a x o sa (omega arith) c.leaf_is_leaf.0))

  -- ---- every point has a corner that is as good

  opened : (K n m : ℕ) → Point t p any any K n m → Some (opens t p) any K n m
  opened K n m (empty e f) = (0, 0, empty refl refl, omega arith, omega arith)
  opened K n m (within a v o c s h e f) = rw (e, f) (open_within K a v s h)
  opened K n m (crosses a k v o c sa l sv e f) = rw (e, f) (open_crosses K a k v sa l sv)

  closed : (K n m : ℕ) → Point t p (opens t p) any K n m → Some (opens t p) (closes t p) K n m
  closed K n m (empty e f) = (0, 0, empty refl refl, omega arith, omega arith)
  closed K n m (within a v o c s h e f) = rw (e, f) (close_within K a v o s h)
  closed K n m (crosses a k v o c sa l sv e f) = rw (e, f) (close_crosses K k a v o sa l sv)

  pub corners_decide : Deciding t formed p (opens t p) (closes t p)
  corners_decide w K few =
      let (n, m, q, e) = points_decide t formed p w K few in
      let (i, j, r, a, b) = opened K n m q in
      let (k, l, s, c, d) = closed K i j r in
      (k, l, s, omega arith)
