-- The runs of a formed tree, tick by tick, are its cycles: the leaf that a run reaches at the end of a cycle tells where
-- it was all along, and the paths of any leaves, one after the other, are a run. Assumes nothing.
use mathlib.Core.Path.{◌≡◌, refl, sym, ap, ap₂, ◌∙◌}
use mathlib.Core.Bool.{Bool, not}
use mathlib.Core.Logic.{◌⊎◌, inl, inr}
use Prim.Native.Nat.{ℕ, zero, suc, ◌+◌, ◌-◌, ◌*◌, ◌/◌, ◌%◌, ◌≤◌, ◌<◌}
use native.Mathlib.Nat.{add-suc, mod-lt, mod-eq_of_lt, div-add-mod'}
use native.Mathlib.Omega.{arith}
use lib.Arith.{digits_div, digits_mod}
use Rattle.laws.proofs.Test.{either, le_or_lt}
use Rattle.theory.specs.Grants.{Stream}
use Rattle.theory.specs.Bounds.{Least, Most}
use Rattle.theory.specs.Tree.{Tree, Child, is_leaf, start, end, Formed, Position, grant, Next, stays, enters, returns, Run, grants}
use Rattle.theory.specs.Cycles.{on_path, spot, system, Choice, cycles, least_of, most_of}
use Rattle.theory.proofs.Bounds.{least_carry, most_of_least}
use Rattle.theory.proofs.Paths.{before_root, before_child, child_parent, child_of, child_start, some_child, some_leaf, not_root, path_up, path_here, path_first, on_path_law, ends_in_cycle, starts_in_cycle, some_tick}
use Rattle.theory.proofs.Cycles.{Sound, least_of_is}

-- a position inside the tree: a location, with a tick of it still to come
pub record Inside (t : Tree) (a : Position) : Type 0 where
  pub within : a.location < t.size
  pub partly : a.done < t.ticks a.location

pub root_inside : (t : Tree) → Formed t → (a : Position) → a.location ≡ 0 → a.done ≡ 0 → Inside t a
root_inside t formed a e f = record { within = rw e formed.root; partly = omega (arith, ap t.ticks e, formed.spends 0 formed.root) }

pub next_inside : (t : Tree) → Formed t → (a b : Position) → Inside t a → Next t a b → Inside t b
next_inside t formed a b i (stays x y z) = record { within = rw y i.within; partly = omega (arith, ap t.ticks y) }
next_inside t formed a b i (enters x y z) = record { within = y.0; partly = omega (arith, formed.spends b.location y.0) }
next_inside t formed a b i (returns x y z w) = root_inside t formed b z w

pub run_inside : (t : Tree) → Formed t → (at : ℕ → Position) → Run t at → (n : ℕ) → Inside t (at n)
run_inside t formed at run zero = root_inside t formed (at 0) run.at_root run.at_first
run_inside t formed at run (suc n) = next_inside t formed (at n) (at (suc n)) (run_inside t formed at run n) (run.next n)

module _ (t : Tree) (formed : Formed t) where
  abbrev P : ℕ
  P = t.period

  pub sound : Sound (system t)
  sound = let (l, w) = some_leaf t formed in record { tick = some_tick t formed; some_word = l; is_word = w }

  -- a tick more: in the same cycle, or the first of the next
  same_cycle : (n : ℕ) → suc (n % P) < P → (suc n % P ≡ suc (n % P)) × (suc n / P ≡ n / P)
  same_cycle n h =
      let e : n / P * P + suc (n % P) ≡ suc n = omega (arith, div-add-mod' n P) in
      (rw e at (digits_mod (n / P) h), rw e at (digits_div (n / P) h))

  new_cycle : (n : ℕ) → suc (n % P) ≡ P → (suc n % P ≡ 0) × (suc n / P ≡ suc (n / P))
  new_cycle n h =
      let e : suc (n / P) * P + 0 ≡ suc n = omega (arith, div-add-mod' n P) in
      (rw e at (digits_mod (suc (n / P)) (some_tick t formed)), rw e at (digits_div (suc (n / P)) (some_tick t formed)))

  -- ---- from ticks to cycles

  module _ (at : ℕ → Position) (run : Run t at) where
    abbrev location : ℕ → ℕ
    location n = (at n).location

    inside : (n : ℕ) → Inside t (at n)
    inside = run_inside t formed at run

    -- tick n of the run is tick n % P of a cycle
    phase : (n : ℕ) → start t (location n) + (at n).done ≡ n % P
    phase zero = omega (arith, run.at_first, before_root t formed.falls t.ticks (location 0) run.at_root, mod-eq_of_lt {n = 0} {m = P} (some_tick t formed))
    phase (suc n) = go (phase n) (run.next n)
      where
        go : start t (location n) + (at n).done ≡ n % P → Next t (at n) (at (suc n)) → start t (location (suc n)) + (at (suc n)).done ≡ suc n % P
        go e (stays a b c) =
            let x = ends_in_cycle t formed (location n) (inside n).within in
            omega (arith, ap (start t) b, (same_cycle n (omega arith)).0)
        go e (enters a b c) =
            let x = starts_in_cycle t formed (location (suc n)) b.0 in
            let y = child_start t formed (location n) (location (suc n)) b in
            omega (arith, (same_cycle n (omega arith)).0)
        go e (returns a b c d) =
            omega (arith, before_root t formed.falls t.ticks (location (suc n)) c, (new_cycle n (omega (arith, formed.whole (location n) ((inside n).within, b)))).0)

    -- where the run was earlier in the cycle is on the path of where it is
    history : (i r j : ℕ) → r < P → j ≤ r → location (i * P + j) ≡ on_path t (location (i * P + r)) j
    history i zero j h l =
        let e : j ≡ 0 = omega arith in
        rw e (sym (path_here t formed.falls (location (i * P + 0)) 0 (inside (i * P + 0)).within (omega (arith, phase (i * P + 0), digits_mod i h))))
    history i (suc r) j h l = elim (le_or_lt j r) [
      | inl y ↦ back (run.next (i * P + r)) (history i r j (omega arith) y) y
      | inr y ↦
          let e : j ≡ suc r = omega arith in
          rw e (sym (path_here t formed.falls (location (i * P + suc r)) (suc r) (inside (i * P + suc r)).within (omega (arith, phase (i * P + suc r), digits_mod i h))))
    ]
      where
        back : Next t (at (i * P + r)) (at (suc (i * P + r))) → location (i * P + j) ≡ on_path t (location (i * P + r)) j → j ≤ r
            → location (i * P + j) ≡ on_path t (location (i * P + suc r)) j
        back (stays a b c) ih y = rw (add-suc (i * P) r, b) ih
        back (enters a b c) ih y =
            let u = location (suc (i * P + r)) in
            let f = phase (i * P + r) ∙ digits_mod i {m = P} {r = r} (omega arith) in
            rw (
              add-suc (i * P) r,
              path_up t formed.falls u j b.0 (omega (arith, child_start t formed (location (i * P + r)) u b)),
              child_parent t (location (i * P + r)) u b,
            ) ih
        back (returns a b c d) ih y =
            let f = rw (add-suc (i * P) r) at (phase (i * P + suc r) ∙ digits_mod i h) in
            absurd (omega (arith, f, before_root t formed.falls t.ticks (location (suc (i * P + r))) c))

    -- the leaf of each cycle
    abbrev chosen : ℕ → ℕ
    chosen i = location (i * P + (P - 1))

    are_words : Choice (system t) chosen
    are_words i =
        let n = i * P + (P - 1) in (
          (inside n).within,
          elim (either (is_leaf t (location n))) [
            | inl y ↦ y
            | inr y ↦
                let (u, c) = some_child t (location n) y in
                let f = phase n ∙ digits_mod i {m = P} {r = P - 1} (omega (arith, some_tick t formed)) in
                absurd (omega (arith, (inside n).partly, child_start t formed (location n) u c, starts_in_cycle t formed u c.0))
          ],
        )

    same_spot : (n : ℕ) → at n ≡ spot t (chosen (n / P)) (n % P)
    same_spot n =
        let h = mod-lt n (some_tick t formed) in
        let e = rw (div-add-mod' n P) at (history (n / P) (P - 1) (n % P) (omega arith) (omega arith)) in
        let f : (at n).done ≡ n % P - start t (on_path t (chosen (n / P)) (n % P)) = omega (arith, phase n, ap (start t) e) in
        λ i. record { location = e i; done = f i }

  pub run_cycles : (g : Stream) → grants t g → cycles (system t) g
  run_cycles g r = record { chosen = chosen r.at r.run; words = are_words r.at r.run; each = λ n. r.each n ∙ ap (grant t) (same_spot r.at r.run n) }

  -- ---- from cycles to ticks

  -- a tick further along the path to v: in the same location, or into its child
  abbrev Onward : ℕ → ℕ → ℕ → Type 0
  Onward u w r = ((w ≡ u) × (suc r < end t u)) ⊎ (Child t u w × (suc r ≡ end t u))

  onward : (k v r : ℕ) → v < k → v < t.size → suc r < end t v → Onward (on_path t v r) (on_path t v (suc r)) r
  onward zero v r f s h = absurd (omega arith)
  onward (suc k) v r f s h = elim (le_or_lt (start t v) r) [
    | inl y ↦ rw (path_here t formed.falls v r s y, path_here t formed.falls v (suc r) s (omega arith)) (inl (refl, h))
    | inr y ↦
        let z = not_root t formed.falls v (omega arith) in
        let g = formed.falls v z s in
        let e = before_child t formed.falls t.ticks v z s in
        elim (le_or_lt (start t v) (suc r)) [
          | inl x ↦
              let b = formed.spends (t.parent v) (omega arith) in
              rw (path_up t formed.falls v r s y, path_here t formed.falls v (suc r) s x, path_here t formed.falls (t.parent v) r (omega arith) (omega arith))
              (inr (child_of t (t.parent v) v z s refl, omega arith))
          | inr x ↦ rw (path_up t formed.falls v r s y, path_up t formed.falls v (suc r) s x) (onward k (t.parent v) r (omega arith) (omega arith) (omega arith))
        ]
  ]

  module _ (c : ℕ → ℕ) (words : Choice (system t) c) where
    abbrev along : ℕ → Position
    along n = spot t (c (n / P)) (n % P)

    ends_cycle : (n : ℕ) → end t (c (n / P)) ≡ P
    ends_cycle n = formed.whole (c (n / P)) (words (n / P))

    next : (n : ℕ) → Next t (along n) (along (suc n))
    next n = elim (le_or_lt P (suc (n % P))) [
      | inl y ↦
          let z = new_cycle n (omega (arith, mod-lt n (some_tick t formed))) in
          let x = formed.spends v (words (n / P)).0 in
          let e = path_here t formed.falls v (n % P) (words (n / P)).0 (omega (arith, ends_cycle n)) in
          returns (omega (arith, ap (start t) e, ap t.ticks e, ends_cycle n, mod-lt n (some_tick t formed))) (rw e (words (n / P)).1)
          (ap (on_path t (c (suc n / P))) z.0 ∙ path_first t formed (c (suc n / P)) (words (suc n / P)).0)
          (omega (arith, z.0))
      | inr y ↦ further y (onward (suc v) v (n % P) (omega arith) (words (n / P)).0 (omega (arith, ends_cycle n)))
    ]
      where
        v : ℕ
        v = c (n / P)

        further : suc (n % P) < P → Onward (on_path t v (n % P)) (on_path t v (suc (n % P))) (n % P) → Next t (along n) (along (suc n))
        further y o =
            let z = same_cycle n y in
            let e : (along (suc n)).location ≡ on_path t v (suc (n % P)) = ap₂ (λ i r. on_path t (c i) r) z.1 z.0 in
            let w = on_path_law t formed (suc v) v (n % P) (omega arith) (words (n / P)).0 (omega (arith, ends_cycle n)) in
            elim o [
              | inl x ↦ stays (omega (arith, w.1, x.1)) (e ∙ x.0) (omega (arith, z.0, ap (start t) (e ∙ x.0), w.1))
              | inr x ↦
                  enters (omega (arith, w.1, x.1)) (rw e x.0)
                  (omega (arith, z.0, ap (start t) e, child_start t formed (along n).location (on_path t v (suc (n % P))) x.0, x.1))
            ]

    is_run : Run t along
    is_run =
        let e = mod-eq_of_lt {n = 0} {m = P} (some_tick t formed) in
        record { at_root = ap (on_path t (c (0 / P))) e ∙ path_first t formed (c (0 / P)) (words (0 / P)).0; at_first = omega (arith, e); next = next }

  pub cycles_run : (g : Stream) → cycles (system t) g → grants t g
  cycles_run g r = record { at = along r.chosen r.words; run = is_run r.chosen r.words; each = r.each }

  -- ---- so the computed bounds are those of the tree

  pub tree_least : (p : ℕ → Bool) (w : ℕ) → Least (grants t) p w (least_of (system t) p w)
  tree_least p w = least_carry (cycles (system t)) (grants t) cycles_run run_cycles (least_of_is (system t) sound p w)

  pub tree_most : (p : ℕ → Bool) (w : ℕ) → Most (grants t) p w (most_of (system t) p w)
  tree_most p w = most_of_least (grants t) (tree_least (λ x. not (p x)) w)
