-- Where a location is placed: the root by its own rule, every other by its parent. Assumes nothing.
use mathlib.Core.Path.{◌≡◌, refl}
use mathlib.Core.Bool.{◌&&◌}
use Prim.Native.Nat.{ℕ, zero, suc}
use lib.Dec.{eqb, ltb}
use Rattle.theory.specs.Guards.{top}
use Rattle.table.specs.declared.Location.{Location}
use Rattle.table.specs.Rules.{is_placed}

pub placed_root : (l : Location) (v : ℕ) → v ≡ 0 → is_placed l v ≡ (eqb l.parent 0 && (eqb l.low 0 && eqb l.high top))
placed_root l v e = rw e

pub placed_child : (l : Location) (v : ℕ) → (v ≡ 0 → ⊥) → is_placed l v ≡ ltb l.parent v
placed_child l zero n = absurd (n refl)
placed_child l (suc v) n = refl
