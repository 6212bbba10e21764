-- An array of what each location gives is the column of that, also where it is copied one by one, and a column's entries are that. Assumes nothing.
use mathlib.Core.Path.{◌≡◌, sym, ◌∙◌}
use mathlib.Core.List.{List, map}
use mathlib.Core.Logic.{inl, inr}
use Prim.Native.Nat.{ℕ, ◌+◌, ◌≤◌, ◌<◌}
use native.Mathlib.Omega.{arith}
use lib.ListN.{length, get_or, set, length-set, length-map, get_or-map}
use lib.Seq.{get_or-set_same, get_or-set_other, ext_get_or}
use Rattle.std.proofs.lemmas.List.{get_or-map as entry-map}
use Rattle.laws.proofs.Test.{le_or_lt}
use Rattle.table.specs.declared.Location.{Location}
use Rattle.table.specs.Table.{no_location}

module _ {B : Type 0} (f : Location → B) (ls : List Location) where
  -- the first v entries are copied
  pub record Copied (column : List B) (v : ℕ) : Type 0 where
    pub within : v ≤ 128
    pub long : length column ≡ 128
    pub each : (u : ℕ) → u < v → get_or column u (f no_location) ≡ f (get_or ls u no_location)

  pub copied_none : (column : List B) → length column ≡ 128 → Copied column 0
  copied_none column e = record { within = omega arith; long = e; each = λ u l. absurd (omega arith) }

  pub copied_more : (column : List B) (v : ℕ) → Copied column v → v < 128 → Copied (set column v (f (get_or ls v no_location))) (v + 1)
  copied_more column v h l = record {
    within = omega arith;
    long = simp length-set h.long;
    each = λ u m. elim (le_or_lt v u) [
      | inl a ↦
          let e : u ≡ v = omega arith in
          rw e (get_or-set_same column v _ _ (omega (arith, h.long)))
      | inr a ↦ get_or-set_other column v u _ _ (omega arith) ∙ h.each u a
    ];
  }

  pub copied_all : (column : List B) (v : ℕ) → length ls ≡ 128 → 128 ≤ v → Copied column v → column ≡ map f ls
  copied_all column v e l h =
      ext_get_or (f no_location) column (map f ls) (simp length-map (h.long ∙ sym e))
      (λ u m. h.each u (omega (arith, h.long)) ∙ sym (get_or-map f ls u no_location))

  pub column_entry : (v : ℕ) → get_or (map f ls) v (f no_location) ≡ f (get_or ls v no_location)
  column_entry v = get_or-map f ls v no_location

  pub column_is : (column : List B) (n : ℕ) (d : B) → length column ≡ n → length ls ≡ n → ((v : ℕ) → v < n → get_or column v d ≡ f (get_or ls v no_location)) → column ≡ map f ls
  column_is column n d e k each =
      ext_get_or d column (map f ls) (e ∙ sym (simp length-map k))
      (λ v l. each v (omega (arith, l, e)) ∙ sym (entry-map f ls v no_location d (omega (arith, l, e, k))))
