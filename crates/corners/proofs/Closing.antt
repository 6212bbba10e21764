-- The marks of the locations at which a corner ends, one location more at a time: one that does not pass is marked where it ends before
-- the cycle, and takes its parent's mark away. Assumes nothing.
use mathlib.Core.Path.{◌≡◌, refl, sym, ◌∙◌}
use mathlib.Core.Bool.{Bool, true, false, not, ◌&&◌}
use mathlib.Core.List.{List, []}
use mathlib.Core.Logic.{inl, inr}
use Prim.Native.Nat.{ℕ, ◌+◌, ◌≤◌, ◌<◌}
use native.Mathlib.Numerals.{add-one}
use native.Mathlib.Omega.{arith}
use lib.Dec.{T, T_not, not_T, eqb, eqb→eq, ltb, ltb→lt, lt→ltb}
use lib.ListN.{length, set, replicate, length-set, length-replicate, get_or-replicate, get_or-eq_default}
use lib.Seq.{get_or-set_same, get_or-set_other}
use Rattle.laws.specs.Test.{none}
use Rattle.laws.proofs.Test.{le_or_lt, and_left, and_right, and_both, and_fails_left, eqb_of, none_all, none_not, same_or_not}
use Rattle.laws.proofs.Climb.{Falls}
use Rattle.theory.specs.Grants.{is}
use Rattle.theory.specs.Tree.{Tree, is_child}
use Rattle.theory.specs.Points.{closes}
use Rattle.table.specs.Columns.{entry}
use Rattle.corners.specs.Lent.{Marks, marked, flag, lent_tree, closes_over}

and_given : (a b : Bool) → T a → (a && b) ≡ b
and_given true b y = refl
and_given false b y = absurd y

-- a mark that is written, and the others
mark_here : (xs : List Bool) (k : ℕ) (x : Bool) → k < length xs → marked (set xs k x) k ≡ x
mark_here xs k x l = get_or-set_same xs k x false l

mark_there : (xs : List Bool) (k i : ℕ) (x : Bool) → (i ≡ k → ⊥) → marked (set xs k x) i ≡ marked xs i
mark_there xs k i x n = get_or-set_other xs k i x false n

-- an array without marks
pub no_mark : (n i : ℕ) → marked (replicate n false) i ≡ false
no_mark n i = elim (le_or_lt n i) [
  | inl h ↦ get_or-eq_default (replicate n false) false (omega (arith, length-replicate {A = Bool} n false))
  | inr h ↦ get_or-replicate n i false false h
]

not_true : (b : Bool) → T (not b) → b ≡ false
not_true true h = absurd h
not_true false h = refl

module _ (parents : List ℕ) (flags : List Bool) (ends : List ℕ) (pass period : ℕ) where
  abbrev tree : ℕ → Tree
  tree n = lent_tree parents [] flags n 0

  -- v ends before the cycle
  abbrev early : ℕ → Bool
  early v = ltb (entry ends v) period

  -- the mark of w among the first n locations
  abbrev mark : ℕ → ℕ → Bool
  mark n w = closes_over parents flags ends pass n period w

  -- u is a child of w that does not pass
  abbrev bars : ℕ → ℕ → Bool
  bars w u = is_child (tree 0) w u && not (is pass (flag flags u))

  mark_passes : (n w : ℕ) → is pass (flag flags w) ≡ true → mark n w ≡ false
  mark_passes n w e = simp e

  mark_barred : (n w u : ℕ) → u < n → 0 < u → entry parents u ≡ w → is pass (flag flags u) ≡ false → mark n w ≡ false
  mark_barred n w u l z e out =
      let c = and_both (ltb 0 u) (eqb (entry parents u) w) (lt→ltb 0 u z) (eqb_of _ _ e) in
      not_true (closes (tree n) (is pass) w && early w)
      (and_fails_left (closes (tree n) (is pass) w) (early w)
      (not_T (closes (tree n) (is pass) w) (λ y. T_not (none (bars w) n) (none_not (bars w) n u l (and_both (is_child (tree 0) w u) _ c (rw out tt))) (and_right (not (is pass (flag flags w))) _ y))))

  mark_new : (v : ℕ) → Falls (entry parents) (v + 1) → is pass (flag flags v) ≡ false → mark (v + 1) v ≡ early v
  mark_new v falls out =
      and_given (closes (tree (v + 1)) (is pass) v) (early v)
      (and_both (not (is pass (flag flags v))) _ (rw out tt)
      (none_all (bars v) (v + 1) (λ u l. not_T (bars v u) (λ y.
      let c = and_left (is_child (tree 0) v u) _ y in
      absurd (omega (arith, falls u (ltb→lt 0 u (and_left (ltb 0 u) _ c)) l, eqb→eq (entry parents u) v (and_right (ltb 0 u) _ c)))))))

  -- v changes nothing for w, where it passes or is no child
  mark_stays : (v w : ℕ) → T (not (bars w v)) → mark (v + 1) w ≡ mark v w
  unfolding none
  mark_stays v w h = rw add-one (go (bars w v) h)
    where
      go : (b : Bool) → T (not b) → ((not (is pass (flag flags w)) && (not b && none (bars w) v)) && early w) ≡ mark v w
      go true h = absurd h
      go false h = refl

  pub record Closing (v : ℕ) (marks : List Bool) : Type 0 where
    pub long : length marks ≡ 128
    pub each : Marks v (mark v) marks
    pub fresh : (w : ℕ) → v ≤ w → marked marks w ≡ false

  pub closing_none : (marks : List Bool) → length marks ≡ 128 → ((w : ℕ) → marked marks w ≡ false) → Closing 0 marks
  closing_none marks e f = record { long = e; each = λ w l. absurd (omega arith); fresh = λ w l. f w }

  module _ (v : ℕ) (marks : List Bool) (small : v < 128) (falls : Falls (entry parents) (v + 1)) (h : Closing v marks) where
    pub closing_passes : is pass (flag flags v) ≡ true → Closing (v + 1) marks
    closing_passes e = record {
      long = h.long;
      each = λ w l. elim (le_or_lt v w) [
        | inl a ↦ let d : w ≡ v = omega arith in rw d (h.fresh v (omega arith) ∙ sym (mark_passes (v + 1) v e))
        | inr a ↦ h.each w a ∙ sym (mark_stays v w (not_T (bars w v) (λ y. T_not (is pass (flag flags v)) (and_right (is_child (tree 0) w v) _ y) (rw e tt))))
      ];
      fresh = λ w l. h.fresh w (omega arith);
    }

    pub closing_root : (x : Bool) → v ≡ 0 → is pass (flag flags v) ≡ false → x ≡ early v → Closing (v + 1) (set marks v x)
    closing_root x z out m = record {
      long = simp length-set h.long;
      each = λ w l. let d : w ≡ v = omega arith in rw d (mark_here marks v x (omega (arith, h.long)) ∙ (m ∙ sym (mark_new v falls out)));
      fresh = λ w l. mark_there marks v w x (omega arith) ∙ h.fresh w (omega arith);
    }

    pub closing_child : (x : Bool) (parent : ℕ) → parent ≡ entry parents v → 0 < v → is pass (flag flags v) ≡ false → x ≡ early v → Closing (v + 1) (set (set marks v x) parent false)
    closing_child x parent e z out m =
        let g = falls v z (omega arith) in
        let there : (w : ℕ) → (w ≡ parent → ⊥) → marked (set (set marks v x) parent false) w ≡ marked (set marks v x) w = λ w d. mark_there (set marks v x) parent w false d in
        record {
          long = simp (length-set, length-set) h.long;
          each = λ w l. elim (same_or_not w parent) [
            | inl d ↦
                rw d
                (mark_here (set marks v x) parent false (simp length-set (omega (arith, h.long)))
                ∙ sym (mark_barred (v + 1) parent v (omega arith) z (sym e) out))
            | inr d ↦ there w d ∙ elim (le_or_lt v w) [
              | inl a ↦ let f : w ≡ v = omega arith in rw f (mark_here marks v x (omega (arith, h.long)) ∙ (m ∙ sym (mark_new v falls out)))
              | inr a ↦
                  mark_there marks v w x (omega arith)
                  ∙ (h.each w a
                  ∙ sym (mark_stays v w (and_fails_left (is_child (tree 0) w v) _ (not_T (is_child (tree 0) w v) (λ y. d (sym (e ∙ eqb→eq (entry parents v) w (and_right (ltb 0 v) _ y))))))))
            ]
          ];
          fresh = λ w l. there w (omega arith) ∙ (mark_there marks v w x (omega arith) ∙ h.fresh w (omega arith));
        }
