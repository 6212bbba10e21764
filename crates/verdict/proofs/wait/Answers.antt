-- `verdict::wait` meets its contract: the refusals in order, and then the wait from the filling. Assumes nothing.
use mathlib.Core.Path.{◌≡◌, refl, sym, ap, subst, subst₂, ◌∙◌}
use Prim.Native.Nat.{ℕ, ◌≤◌}
use native.Mathlib.Omega.{arith}
use Rattle.std.proofs.Common.{rules, Err}
use Rattle.theory.specs.Grants.{is}
use Rattle.theory.specs.Tree.{grants, CycleLeast}
use Rattle.theory.specs.Verdict.{Wait}
use Rattle.theory.specs.Cycles.{cycle_least, system}
use Rattle.theory.proofs.Period.{cycle_least_law}
use Rattle.table.specs.declared.Table.{Table}
use Rattle.table.specs.declared.well_formed.WellFormedTable.{WellFormedTable}
use Rattle.table.specs.Table.{tree_of}
use Rattle.table.specs.Reasons.{as_refusal}
use Rattle.table.proofs.Known.{well_formed}
use Rattle.supply.specs.declared.queues.Supply.{Supply}
use Rattle.supply.proofs.Supply.{supplied}
use Rattle.bounds.specs.Answered.{ticks_answered}
use Rattle.bounds.proofs.Refused.{queue_known}
use Rattle.bounds.proofs.Answered.{answer_says}
use Rattle.verdict.specs.Questions.{WaitAnswer}
use Rattle.verdict.proofs.InOrder.{refuses, wait_asked, wait_amount, wait_never, wait_given, refused_answer_law}
use Rattle.verdict.proofs.wait.Goals as goal
use Rattle.verdict.proofs.wait.Goals.{Else-not-contains}

-- the cycle least of a queue's supply
cycle_known : (s : Supply) (t : Table) (q : ℕ) → s.table.now.table.now ≡ t → s.queue ≡ q → CycleLeast (tree_of t) (is q) s.cycle
cycle_known s t q e f =
    subst₂ (λ u r. CycleLeast (tree_of u) (is r) s.cycle) e f (supplied s).cycle_least_law

-- an amount that is asked for
inside : (c : Else-not-contains) → (1 ≤ c.args.ticks) × (c.args.ticks ≤ 65535)
inside c = search rules

pub returns-in_err-accepted : goal.returns-in_err-accepted
returns-in_err-accepted c =
    let t = c.args.table in
    let q = c.args.queue in
    let ticks = c.args.ticks in
    let e = c.in_err-accepted.field-0.0 in
    let asked = c.in_err-accepted.ensures.refusal in
    let given : c.from_residual.result ≡ Err e = search rules in
    let waits = wait_asked t q ticks 0 e asked in
    let answer : WaitAnswer t q ticks (ticks_answered (Err e)) =
    record { cycle = 0; cycle_least_law = λ p. absurd (refuses e _ asked p); answer = refused_answer_law _ _ _ (refuses e _ waits) waits refl } in
    subst (λ r. WaitAnswer t q ticks (ticks_answered r)) (sym given) answer

pub returns-then-not-contains : goal.returns-then-not-contains
returns-then-not-contains c =
    let t = c.args.table in
    let q = c.args.queue in
    let ticks = c.args.ticks in
    let accepted = c.in_ok-accepted.accepted in
    let least = cycle_least (system (tree_of t)) (is q) in
    let law = subst (λ (u : Table). CycleLeast (tree_of u) (is q) (cycle_least (system (tree_of u)) (is q))) c.in_ok-accepted.ensures.kept
    (cycle_least_law (tree_of accepted.table.now) (well_formed accepted).formed (is q)) in
    let outside : 1 ≤ ticks → ticks ≤ 65535 → ⊥ = search rules in
    let refused = ap as_refusal c.whole.ensures ∙ wait_amount t q ticks least c.in_ok-accepted.ensures.refusal outside in record {
      cycle = least;
      cycle_least_law = λ p. law;
      answer = refused_answer_law _ _ _ (refuses c.whole.result _ refused) refused refl;
    }

pub supply_of-supply-requires : goal.supply_of-supply-requires
supply_of-supply-requires c = (queue_known c.args.table c.args.queue c.in_ok-accepted.ensures.refusal).0

pub returns-then-supply-eq0 : goal.returns-then-supply-eq0
returns-then-supply-eq0 c =
    let t = c.args.table in
    let q = c.args.queue in
    let ticks = c.args.ticks in
    let s = c.supply_of-supply.result in
    let is_table = ap (λ (u : WellFormedTable). u.table.now) c.supply_of-supply.ensures.table ∙ c.in_ok-accepted.ensures.kept in
    let (some, most) = inside (goal.at.returns-then-supply-eq0 c).Else-not-contains in
    let refused = ap as_refusal c.whole-then-supply-eq0.ensures ∙ wait_never t q ticks s.cycle c.in_ok-accepted.ensures.refusal some most c.if-supply-eq0.true in record {
      cycle = s.cycle;
      cycle_least_law = λ p. cycle_known s t q is_table c.supply_of-supply.ensures.queue;
      answer = refused_answer_law _ _ _ (refuses c.whole-then-supply-eq0.result _ refused) refused refl;
    }

pub returns : goal.returns
returns c =
    let t = c.args.table in
    let q = c.args.queue in
    let ticks = c.args.ticks in
    let s = c.supply_of-supply.result in
    let is_table = ap (λ (u : WellFormedTable). u.table.now) c.supply_of-supply.ensures.table ∙ c.in_ok-accepted.ensures.kept in
    let (some, most) = inside (goal.at.returns c).Else-not-contains in
    let gets : 1 ≤ s.cycle = omega arith in
    let waits = subst₂ (λ u r. Wait (grants (tree_of u)) (is r) ticks c.longest.result) is_table c.supply_of-supply.ensures.queue c.longest.ensures in record {
      cycle = s.cycle;
      cycle_least_law = λ p. cycle_known s t q is_table c.supply_of-supply.ensures.queue;
      answer = answer_says _ _ _ (wait_given t q ticks s.cycle c.in_ok-accepted.ensures.refusal some most gets) c.longest.result refl waits;
    }
