-- A verdict said by its record.
use mathlib.Core.Path.{◌≡◌, refl, sym}
use mathlib.Core.Bool.{true, false}
use Prim.Native.Nat.{ℕ}
use native.Mathlib.Omega.{arith}
use Rattle.theory.specs.Tree.{grants}
use Rattle.theory.specs.Verdict.{Meets, Short}
use Rattle.table.specs.declared.Table.{Table}
use Rattle.table.specs.Table.{tree_of, tasks_of}
use Rattle.table.specs.Rules.{fine}
use Rattle.search.specs.declared.VerdictAnswer.{VerdictAnswer}
use Rattle.search.specs.Answers.{meets_answer, short_answer, Verdict}

pub true_not_false : true ≡ false → ⊥
true_not_false e = let z : ◌≡◌ {A = ℕ} 0 1 = cc in omega arith

pub verdict_meets : (t : Table) (q : ℕ) (a : VerdictAnswer) → a ≡ meets_answer → Meets (grants (tree_of t)) (tasks_of t) q → (a.refusal ≡ fine) × Verdict t q a
verdict_meets t q a e h = rw e (refl, record { meets = λ z. h; zeros = λ z. (refl, refl, refl); short = λ z. absurd (true_not_false z) })

pub verdict_short : (t : Table) (q : ℕ) (a : VerdictAnswer) (w d s : ℕ) → a ≡ short_answer w d s → Short (grants (tree_of t)) (tasks_of t) q w d s
    → (a.refusal ≡ fine) × Verdict t q a
verdict_short t q a w d s e h =
    rw e (refl, record { meets = λ z. absurd (true_not_false (sym z)); zeros = λ z. absurd (true_not_false (sym z)); short = λ z. h })
