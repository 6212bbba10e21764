use Rattle.std.proofs.Common.{◌≡◌, sym, ap, ◌∙◌, ℕ, ◌+◌, ◌*◌, ◌%◌, ◌^◌, ◌<◌, Bool, arith}
use lib.Pow.{pow_mono, shl_exact}
use native.Mathlib.Nat.{lt_of_lt_of_le}
use Rattle.laws.proofs.Bits.{set_none, set_with, set_without, set_small}
use Rattle.theory.specs.Job.{is_late}
use Rattle.jobs.specs.Entries.{job_in}
use Rattle.jobs.proofs.Tasks.late_set.Goals as goal
use Rattle.jobs.proofs.Tasks.late_set.Goals.{then-is_late, else-is_late}

exact : (i : ℕ) → i < 32 → 1 * 2 ^ i % 4294967296 ≡ 2 ^ i
exact i l = shl_exact {a = 1} 1 i 32 (omega arith) (omega arith) ∙ omega arith

pub loop-i-init : goal.loop-i-init
loop-i-init c = sym (set_none (λ i. is_late (job_in c.args.entries.now i)))

pub overflow_add-set : goal.overflow_add-set
overflow_add-set c =
    let l = c.loop-i in
    let late : ℕ → Bool = λ i. is_late (job_in c.args.entries.now i) in
    rw (exact l.i (omega arith), set_with late l.i l.set l.invariant (sym c.is_late.ensures ∙ c.if-is_late.true))
    (record { fits = lt_of_lt_of_le (set_small late (l.i + 1)) (pow_mono {j = 32} (omega arith)) })

pub loop-i-preserved : goal.loop-i-preserved
loop-i-preserved c =
    let l = c.loop-i in
    let late : ℕ → Bool = λ i. is_late (job_in c.args.entries.now i) in
    elim c.if-is_late.branch [
      | then-is_late w ↦ w.set-is ∙ (ap (λ x. l.set + x) (exact l.i (omega arith)) ∙ set_with late l.i l.set l.invariant (sym c.is_late.ensures ∙ w.if-is_late.true))
      | else-is_late w ↦ w.set-is ∙ set_without late l.i l.set l.invariant (sym c.is_late.ensures ∙ w.if-is_late.false)
    ]
