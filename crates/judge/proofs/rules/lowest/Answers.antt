use Rattle.std.proofs.Common.{◌≡◌, sym, ap, ◌∙◌, ℕ, ◌≤◌, ◌<◌, Bool, false, arith}
use Rattle.laws.proofs.Cases.{of_false}
use Rattle.table.specs.Reasons.{number}
use Rattle.table.specs.Rules.{refusal}
use Rattle.judge.proofs.Lowest.{Kept, lowest_found, lowest_none}
use Rattle.judge.proofs.rules.lowest.Goals as goal

-- the entries below v were tried
kept : (rule : ℕ → Bool) (n v : ℕ) → v ≤ n → ((i : ℕ) → i < v → false ≡ rule i) → Kept rule n v
kept rule n v l each = record { within = l; each = λ i m. of_false (rule i) (sym (each i m)) }

pub returns-then-breaks-clause-refusal : goal.returns-then-breaks-clause-refusal
returns-then-breaks-clause-refusal g c rule place says put =
    let v = c.loop-v.v in
    let broken = sym c.if-breaks.true ∙ says v _ (omega arith) c.breaks.ensures in
    ap (refusal (number c.args.reason)) (sym (put v))
    ∙ lowest_found (number c.args.reason) place (kept rule c.args.n v (omega arith) (λ i l. says i _ (omega arith) (c.loop-v.invariant i l))) (omega arith) (sym broken)

pub returns-clause-refusal : goal.returns-clause-refusal
returns-clause-refusal g c rule place says put =
    lowest_none (number c.args.reason) place (kept rule c.args.n c.args.n (omega arith) (λ i l. says i _ l (c.loop-v.invariant i (omega arith)))) (omega arith)
