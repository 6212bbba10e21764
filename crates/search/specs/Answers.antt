-- What a verdict says of the queue, and its three answers as records.
use Rattle.std.specs.Prelude.{◌≡◌, true, false, ℕ}
use Rattle.theory.specs.Tree.{grants}
use Rattle.theory.specs.Verdict.{Meets, Short}
use Rattle.table.specs.declared.Table.{Table}
use Rattle.table.specs.declared.Refusal.{Refusal}
use Rattle.table.specs.Table.{tree_of, tasks_of}
use Rattle.table.specs.Rules.{fine}
use Rattle.search.specs.declared.VerdictAnswer.{VerdictAnswer}

-- No window, no demand, no supply: so beside MEETS and beside a refusal.
abbrev pub Zeros : VerdictAnswer → Type 0
Zeros a = (a.window ≡ 0) × (a.demand ≡ 0) × (a.supply ≡ 0)

-- MEETS and zeros, or SHORT with the shortest window, its demand and its supply.
pub record Verdict (t : Table) (q : ℕ) (a : VerdictAnswer) : Type 0 where
  pub meets : a.meets ≡ true → Meets (grants (tree_of t)) (tasks_of t) q
  pub zeros : a.meets ≡ true → Zeros a
  pub short : a.meets ≡ false → Short (grants (tree_of t)) (tasks_of t) q a.window a.demand a.supply

-- ---- answers

abbrev pub refused_answer : Refusal → VerdictAnswer
refused_answer r = record { refusal = r; meets = false; window = 0; demand = 0; supply = 0 }

abbrev pub meets_answer : VerdictAnswer
meets_answer = record { refusal = fine; meets = true; window = 0; demand = 0; supply = 0 }

abbrev pub short_answer : ℕ → ℕ → ℕ → VerdictAnswer
short_answer window demand supply = record { refusal = fine; meets = false; window = window; demand = demand; supply = supply }
