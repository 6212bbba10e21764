-- The pass from the last location to the root: from v on every entry is its location's rest; an entry before v is the least rest of its
-- children from v on, or the period where there is none yet. Assumes nothing.
use mathlib.Core.Path.{◌≡◌, sym, ap, ◌∙◌}
use mathlib.Core.Bool.{Bool}
use mathlib.Core.List.{List}
use mathlib.Core.Logic.{◌⊎◌, inl, inr}
use Prim.Native.Nat.{ℕ, suc, ◌+◌, ◌-◌, ◌≤◌, ◌<◌, min}
use native.Mathlib.Omega.{arith}
use lib.Dec.{ltb, lt→ltb}
use lib.Arith.{le→nltb}
use lib.ListN.{length, set, length-set}
use Rattle.laws.specs.Test.{pick, bit}
use Rattle.laws.proofs.Test.{either, le_or_lt, pick_yes, pick_no, none_not, same_or_not}
use Rattle.laws.proofs.Minimum.{minimum_default}
use Rattle.theory.specs.Tree.{Tree, is_child, Child, is_leaf, before, upto, own}
use Rattle.theory.specs.Points.{leaf_below, rest}
use Rattle.theory.proofs.Paths.{child_parent, child_below, child_of, some_child, child_start, starts_in_cycle}
use Rattle.theory.proofs.Points.{own_yes, own_no}
use Rattle.theory.proofs.Rest.{rest_leaf, rest_child, rest_some}
use Rattle.table.specs.Columns.{entry}
use Rattle.slice.proofs.Between.{set_here, set_there}
use Rattle.corners.specs.declared.lent.LentTree.{LentTree}
use Rattle.corners.specs.Lent.{flag, own_over}
use Rattle.corners.specs.Trees.{tree_from, asked_by}

module _ (t : LentTree) where
  abbrev tree : Tree
  tree = tree_from t

  abbrev p : ℕ → Bool
  p = asked_by t

  abbrev n : ℕ
  n = t.locations

  abbrev period : ℕ
  period = t.period

  abbrev resting : ℕ → ℕ
  resting v = rest tree p v

  -- the least of u's children from v on
  abbrev Least : ℕ → ℕ → ℕ → Type 0
  Least v u x = (x ≡ period) ⊎ ((w : ℕ) × Child tree u w × (v ≤ w) × (x ≡ resting w))

  pub record Resting (v : ℕ) (rests : List ℕ) : Type 0 where
    pub within : v ≤ n
    pub long : length rests ≡ 128
    pub done : (w : ℕ) → v ≤ w → w < n → entry rests w ≡ resting w
    pub lower : (u w : ℕ) → u < v → Child tree u w → v ≤ w → entry rests u ≤ resting w
    pub met : (u : ℕ) → u < v → Least v u (entry rests u)

  -- a location's own ticks, all or none
  pub own_over_law : (v : ℕ) → own tree p v ≡ own_over t.ticks t.flags (bit t.pass) v
  own_over_law v = elim (either (p (flag t.flags v))) [
    | inl y ↦ own_yes tree t.lent.formed p v y ∙ sym (pick_yes (p (flag t.flags v)) _ _ y)
    | inr y ↦ own_no tree t.lent.formed p v y ∙ sym (pick_no (p (flag t.flags v)) _ _ y)
  ]

  rest_le_period : (v : ℕ) → resting v ≤ period
  rest_le_period v = omega (arith, minimum_default (leaf_below tree v) (λ l. upto tree (own tree p) l - before tree (own tree p) v) (period - before tree (entry t.ticks) v) n)

  -- no child's rest is the whole period
  child_rest : (u w : ℕ) → Child tree u w → resting w < period
  child_rest u w c =
      let e = child_parent tree u w c in
      let s = t.lent.formed.falls w (child_below tree u w c) c.0 in
      omega (
        arith,
        minimum_default (leaf_below tree w) (λ l. upto tree (own tree p) l - before tree (own tree p) w) (period - before tree (entry t.ticks) w) n,
        child_start tree t.lent.formed u w c,
        starts_in_cycle tree t.lent.formed w c.0,
        t.lent.formed.spends u (omega (arith, c.0)),
      )

  pub resting_none : (rests : List ℕ) → length rests ≡ 128 → ((u : ℕ) → u < n → entry rests u ≡ period) → Resting n rests
  resting_none rests e f = record {
    within = omega arith;
    long = e;
    done = λ w l m. absurd (omega arith);
    lower = λ u w l c m. absurd (omega (arith, c.0));
    met = λ u l. inl (f u l);
  }

  pub resting_small : (v u : ℕ) (rests : List ℕ) → Resting v rests → u < v → entry rests u ≤ period
  resting_small v u rests h l = elim (h.met u l) [ inl e ↦ omega arith | inr (w, c, m, e) ↦ omega (arith, rest_le_period w) ]

  module _ (v k : ℕ) (rests : List ℕ) (next : k ≡ suc v) (h : Resting k rests) where
    later_child : (w : ℕ) → Child tree v w → k ≤ w
    later_child w c = omega (arith, t.lent.formed.falls w (child_below tree v w c) c.0, child_parent tree v w c)

    -- v's own ticks, and the least of its children
    pub resting_at : (x : ℕ) → x ≡ own_over t.ticks t.flags (bit t.pass) v + pick (ltb (entry rests v) period) (entry rests v) 0 → x ≡ resting v
    resting_at x e =
        let small : v < n = omega (arith, h.within) in
        let o = own_over_law v in
        elim (h.met v (omega arith)) [
          | inl f ↦
              let z = pick_no (ltb (entry rests v) period) (entry rests v) 0 (le→nltb (entry rests v) period (omega arith)) in
              elim (either (is_leaf tree v)) [
                | inl y ↦ omega (arith, rest_leaf tree t.lent.formed p v (small, y))
                | inr y ↦
                    let (u, c) = some_child tree v y in
                    absurd (omega (arith, h.lower v u (omega arith) c (later_child u c), child_rest v u c))
              ]
          | inr (w, c, l, f) ↦
              let g = child_rest v w c in
              let z = pick_yes (ltb (entry rests v) period) (entry rests v) 0 (lt→ltb (entry rests v) period (omega arith)) in
              let (u, d, r) = rest_some tree t.lent.formed p v small (none_not (is_child tree v) n w c.0 c.1) in
              omega (arith, rest_child tree t.lent.formed p v w c, h.lower v u (omega arith) d (later_child u d))
        ]

    pub resting_root : (x : ℕ) → x ≡ resting v → v ≡ 0 → Resting v (set rests v x)
    resting_root x e z = record {
      within = omega (arith, h.within);
      long = simp length-set h.long;
      done = λ w l m. elim (le_or_lt w v) [
        | inl a ↦ let d : w ≡ v = omega arith in rw d (set_here rests v x (omega (arith, h.long, h.within, t.lent.few)) ∙ e)
        | inr a ↦ set_there rests v w x (omega arith) ∙ h.done w (omega arith) m
      ];
      lower = λ u w l c m. absurd (omega arith);
      met = λ u l. absurd (omega arith);
    }

    module _ (x y parent : ℕ) (e : x ≡ resting v) (z : 0 < v) (p : parent ≡ entry t.parents v) (q : y ≡ min (entry (set rests v x) parent) x) where
      abbrev after : List ℕ
      after = set (set rests v x) parent y

      small : v < n
      small = omega (arith, h.within)

      earlier : parent < v
      earlier = omega (arith, t.lent.formed.falls v z small)

      here : entry after parent ≡ min (entry rests parent) x
      here =
          set_here (set rests v x) parent y (simp length-set (omega (arith, h.long, earlier, small, t.lent.few)))
          ∙ omega (arith, q, set_there rests v parent x (omega (arith, earlier)))

      there : (u : ℕ) → (u ≡ parent → ⊥) → (u ≡ v → ⊥) → entry after u ≡ entry rests u
      there u a b = set_there (set rests v x) parent u y a ∙ set_there rests v u x b

      at_v : entry after v ≡ resting v
      at_v = set_there (set rests v x) parent v y (omega (arith, earlier)) ∙ (set_here rests v x (omega (arith, h.long, small, t.lent.few)) ∙ e)

      falls_to : (u : ℕ) → u < v → entry after u ≤ entry rests u
      falls_to u l = elim (same_or_not u parent) [
        | inl d ↦ omega (arith, ap (entry after) d, ap (entry rests) d, here)
        | inr d ↦ omega (arith, there u d (omega arith))
      ]

      kept : (u : ℕ) → u < v → entry after u ≡ entry rests u → Least v u (entry after u)
      kept u l f = elim (h.met u (omega arith)) [ inl g ↦ inl (f ∙ g) | inr (w, c, m, g) ↦ inr (w, c, omega arith, f ∙ g) ]

      pub resting_child : Resting v after
      resting_child = record {
        within = omega (arith, small);
        long = simp (length-set, length-set) h.long;
        done = λ w l m. elim (le_or_lt w v) [
          | inl a ↦ let d : w ≡ v = omega arith in rw d at_v
          | inr a ↦ there w (omega (arith, earlier)) (omega arith) ∙ h.done w (omega arith) m
        ];
        lower = λ u w l c m. elim (le_or_lt w v) [
          | inl a ↦
              let d : w ≡ v = omega arith in
              let f : u ≡ parent = sym (child_parent tree u w c) ∙ (ap (entry t.parents) d ∙ sym p) in
              omega (arith, ap (entry after) f, here, ap resting d, e)
          | inr a ↦ omega (arith, falls_to u l, h.lower u w (omega arith) c (omega arith))
        ];
        met = λ u l. elim (same_or_not u parent) [
          | inl d ↦ elim (le_or_lt (entry rests parent) x) [
            | inl a ↦ kept u l (omega (arith, ap (entry after) d, ap (entry rests) d, here))
            | inr a ↦ inr (v, child_of tree u v z small (sym (d ∙ p)), omega arith, omega (arith, ap (entry after) d, here, e))
          ]
          | inr d ↦ kept u l (there u d (omega arith))
        ];
      }
