-- The searches for the least common multiple, the verdict and the wait.
use Rattle.std.specs.Prelude.{Bool, ℕ, zero, suc, ◌+◌, ◌*◌, ◌%◌, ◌≤◌, eqb, leb, ltb}
use Rattle.laws.specs.Test.{pick}
use Rattle.laws.specs.Found.{Found, nobody, at, first}
use Rattle.theory.specs.Grants.{is}
use Rattle.theory.specs.Tree.{Tree, grants, CycleLeast}
use Rattle.theory.specs.Task.{Tasks, belongs, demand}
use Rattle.theory.specs.Verdict.{Meets, Short, Wait}
use Rattle.theory.specs.Cycles.{least_of, system}

abbrev pub or_one : Found → ℕ
or_one nobody = 1
or_one (at k) = k

-- How many L make the first multiple that b divides.
unfoldable pub times : ℕ → ℕ → ℕ
times L b = or_one (first (λ k. eqb (k * L % b) 0) 1 b)

-- The least common multiple of L and b.
abbrev pub lcm : ℕ → ℕ → ℕ
lcm L b = times L b * L

-- The same of P and the gaps of queue q's tasks among the first m.
unfoldable pub lcm_to : Tasks → ℕ → ℕ → ℕ → ℕ
lcm_to ts q P zero = P
lcm_to ts q P (suc m) = pick (belongs ts q m) (lcm (lcm_to ts q P m) (ts.task m).gap) (lcm_to ts q P m)

abbrev pub lcm_of : Tasks → ℕ → ℕ → ℕ
lcm_of ts q P = lcm_to ts q P ts.number

-- In t ticks queue q's demand exceeds the supply.
abbrev pub lacks : (ℕ → ℕ) → Tasks → ℕ → ℕ → Bool
lacks supply ts q t = ltb (supply t) (demand ts q t)

-- How far the verdict looks.
abbrev pub horizon : Tree → Tasks → ℕ → ℕ
horizon t ts q = lcm_of ts q t.period

-- The verdict: nobody where the queue meets, else the shortest window in which it is short.
abbrev pub verdict : Tree → Tasks → ℕ → Found
verdict t ts q = first (lacks (least_of (system t) (is q)) ts q) 1 (horizon t ts q)

-- What the verdict says.
unfoldable pub VerdictSays : Tree → Tasks → ℕ → Found → Type 0
VerdictSays t ts q nobody = Meets (grants t) ts q
VerdictSays t ts q (at w) = Short (grants t) ts q w (demand ts q w) (least_of (system t) (is q) w)

-- The wait for c ticks: nobody where some cycle has none, else the shortest window that always has c.
abbrev pub wait : Tree → (ℕ → Bool) → ℕ → Found
wait t p c = first (λ w. leb c (least_of (system t) p w)) 0 (suc (t.period + c * t.period))

-- What the wait says.
unfoldable pub WaitSays : Tree → (ℕ → Bool) → ℕ → Found → Type 0
WaitSays t p c nobody = (1 ≤ c) × CycleLeast t p 0
WaitSays t p c (at w) = Wait (grants t) p c w
