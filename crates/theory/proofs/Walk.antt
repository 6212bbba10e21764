-- The walk by values is a run, since a value leads to a child and a leaf to the root; and every run is a walk by some values, since
-- the low end of a child's guard leads to that child and to no other. Assumes nothing.
use mathlib.Core.Path.{◌≡◌, refl, sym, ap, ◌∙◌, subst}
use mathlib.Core.Bool.{not, ◌&&◌}
use mathlib.Core.Logic.{inl, inr}
use Prim.Native.Nat.{ℕ, zero, suc, ◌≤◌, ◌<◌, min}
use native.Mathlib.Omega.{arith}
use lib.Dec.{T, T_not, leb, le→leb, ltb, lt→ltb}
use lib.Arith.{le→nltb}
use Rattle.laws.specs.Found.{Found, nobody, at, first}
use Rattle.laws.proofs.Test.{either, le_or_lt, and_left, and_right, and_both, pick_yes, pick_no, none_not, none_each}
use Rattle.theory.specs.Tree.{Tree, is_child, Child, is_leaf, Formed, Position, Next, stays, enters, returns, Run}
use Rattle.theory.specs.Guards.{top, holds, Guarded, or_root, onto, move, walk}
use Rattle.theory.proofs.Paths.{child_below}
use Rattle.theory.proofs.Runs.{Inside, root_inside, next_inside, run_inside}
use Rattle.theory.proofs.Sweep.{Holder, first_holder}

-- ---- where a location's last tick leads

-- what the search of `onto` finds
abbrev sought : Tree → ℕ → ℕ → Found
sought t v x = first (λ u. is_child t v u && holds t x u) 0 t.size

abbrev Finds : Tree → ℕ → ℕ → Found → Type 0
Finds t v x o = Holder (is_child t v) t.low t.high t.size x o

finds : (t : Tree) (v x : ℕ) → Finds t v x (sought t v x)
finds t v x = first_holder (is_child t v) t.low t.high t.size x

pub onto_leaf : (t : Tree) (v x : ℕ) → T (is_leaf t v) → onto t v x ≡ 0
onto_leaf t v x l = go (sought t v x) (finds t v x)
  where
    go : (o : Found) → Finds t v x o → or_root o ≡ 0
    go nobody h = refl
    go (at u) h = absurd (T_not (is_child t v u) (none_each (is_child t v) t.size u l h.0) (and_left (is_child t v u) _ h.1))

module _ (t : Tree) (guarded : Guarded t) where
  pub onto_child : (v x : ℕ) → v < t.size → T (not (is_leaf t v)) → x ≤ top → Child t v (onto t v x) × T (holds t x (onto t v x))
  onto_child v x s l b = go (sought t v x) (finds t v x)
    where
      go : (o : Found) → Finds t v x o → Child t v (or_root o) × T (holds t x (or_root o))
      go nobody h =
          let (u, c, y) = guarded.no_gap v x s l b in
          absurd (T_not (is_child t v u && holds t x u) (h u c.0) (and_both (is_child t v u) _ c.1 y))
      go (at u) h = ((h.0, and_left (is_child t v u) _ h.1), and_right (is_child t v u) _ h.1)

  -- the one child whose guard holds x
  pub onto_is : (v x u : ℕ) → v < t.size → x ≤ top → Child t v u → T (holds t x u) → onto t v x ≡ u
  onto_is v x u s b c y =
      let o = onto_child v x s (none_not (is_child t v) t.size u c.0 c.1) b in
      guarded.no_overlap v (onto t v x) u x b o.0 c o.1 y

-- ---- one tick by values

same_position : (a b : Position) → a.location ≡ b.location → a.done ≡ b.done → a ≡ b
same_position a b e f = λ i. record { location = e i; done = f i }

module _ (t : Tree) (values : ℕ → ℕ) (a : Position) where
  pub move_stays : suc a.done < t.ticks a.location → move t values a ≡ record { location = a.location; done = suc a.done }
  move_stays l =
      let y = lt→ltb (suc a.done) (t.ticks a.location) l in
      same_position _ _ (pick_yes (ltb (suc a.done) (t.ticks a.location)) _ _ y) (pick_yes (ltb (suc a.done) (t.ticks a.location)) _ _ y)

  pub move_leads : suc a.done ≡ t.ticks a.location → move t values a ≡ record { location = onto t a.location (values (t.variable a.location)); done = 0 }
  move_leads e =
      let y = le→nltb (suc a.done) (t.ticks a.location) (omega arith) in
      same_position _ _ (pick_no (ltb (suc a.done) (t.ticks a.location)) _ _ y) (pick_no (ltb (suc a.done) (t.ticks a.location)) _ _ y)

module _ (t : Tree) (formed : Formed t) (guarded : Guarded t) where
  -- ---- a walk is a run

  move_next : (values : ℕ → ℕ) → ((i : ℕ) → values i ≤ top) → (a : Position) → Inside t a → Next t a (move t values a)
  move_next values small a h = elim (le_or_lt (t.ticks v) (suc a.done)) [
    | inl y ↦
        let e : suc a.done ≡ t.ticks v = omega (arith, h.partly) in
        subst (Next t a) (sym (move_leads t values a e)) (elim (either (is_leaf t v)) [
          | inl l ↦ returns e l (onto_leaf t v x l) refl
          | inr l ↦ enters e (onto_child t guarded v x h.within l (small (t.variable v))).0 refl
        ])
    | inr y ↦ subst (Next t a) (sym (move_stays t values a y)) (stays y refl refl)
  ]
    where
      v : ℕ
      v = a.location

      x : ℕ
      x = values (t.variable v)

  module _ (values : ℕ → ℕ → ℕ) (small : (n i : ℕ) → values n i ≤ top) where
    walk_inside : (n : ℕ) → Inside t (walk t values n)
    unfolding walk
    walk_inside zero = root_inside t formed (walk t values 0) refl refl
    walk_inside (suc n) = let h = walk_inside n in next_inside t formed (walk t values n) (walk t values (suc n)) h (move_next (values n) (small n) (walk t values n) h)

    pub walk_is_run : Run t (walk t values)
    unfolding walk
    walk_is_run = record { at_root = refl; at_first = refl; next = λ n. move_next (values n) (small n) (walk t values n) (walk_inside n) }

  -- ---- a run is a walk

  -- a value that leads to b
  abbrev toward : Position → ℕ
  toward b = min (t.low b.location) top

  move_is : (a b : Position) → Inside t a → Next t a b → move t (λ i. toward b) a ≡ b
  move_is a b h (stays l e f) = move_stays t (λ i. toward b) a l ∙ same_position _ b (sym e) (sym f)
  move_is a b h (returns l y e f) = move_leads t (λ i. toward b) a l ∙ same_position _ b (onto_leaf t a.location (toward b) y ∙ sym e) (sym f)
  move_is a b h (enters l c f) = move_leads t (λ i. toward b) a l ∙ same_position _ b (onto_is t guarded a.location (toward b) u h.within (omega arith) c holds_low) (sym f)
    where
      u : ℕ
      u = b.location

      holds_low : T (holds t (toward b) u)
      holds_low =
          let r = guarded.some_value u (child_below t a.location u c) c.0 in
          and_both (leb (t.low u) (toward b)) _ (le→leb (t.low u) (toward b) (omega arith)) (le→leb (toward b) (t.high u) (omega arith))

  pub run_is_walk : (a : ℕ → Position) → Run t a → (values : ℕ → ℕ → ℕ) × ((n i : ℕ) → values n i ≤ top) × ((n : ℕ) → walk t values n ≡ a n)
  unfolding walk
  run_is_walk a run = (λ n i. toward (a (suc n)), λ n i. omega arith, same)
    where
      same : (n : ℕ) → walk t (λ n i. toward (a (suc n))) n ≡ a n
      same zero = same_position _ (a 0) (sym run.at_root) (sym run.at_first)
      same (suc n) = ap (move t (λ i. toward (a (suc n)))) (same n) ∙ move_is (a n) (a (suc n)) (run_inside t formed a run n) (run.next n)
