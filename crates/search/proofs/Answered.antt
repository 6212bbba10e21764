-- What C is given tells the verdict, or why there is none. Assumes nothing.
use mathlib.Core.Path.{◌≡◌, refl, sym, ap}
use Rattle.std.proofs.Common.{Result, Ok, Err}
use Rattle.table.specs.declared.refused.Refused.{Refused}
use Rattle.table.proofs.Reasons.{not_fine, as_refusal_same}
use Rattle.search.specs.declared.Verdict.{Verdict}
use Rattle.search.specs.declared.Verdict.TheVariants.{Meets, Short}
use Rattle.search.specs.declared.VerdictAnswer.{VerdictAnswer}
use Rattle.search.specs.Answered.{verdict_answered}
use Rattle.search.proofs.Answers.{true_not_false}

pub verdict_tells : (x y : Result Verdict Refused) → verdict_answered x ≡ verdict_answered y → x ≡ y
verdict_tells (Ok Meets) (Ok Meets) e = refl
verdict_tells (Ok Meets) (Ok (Short w d s)) e = absurd (true_not_false (ap (λ (a : VerdictAnswer). a.meets) e))
verdict_tells (Ok (Short w d s)) (Ok Meets) e = absurd (true_not_false (sym (ap (λ (a : VerdictAnswer). a.meets) e)))
verdict_tells (Ok (Short w d s)) (Ok (Short w' d' s')) e = ap (λ (a : VerdictAnswer). Ok (Short a.window a.demand a.supply)) e
verdict_tells (Ok Meets) (Err r) e = absurd (not_fine r (sym (ap (λ (a : VerdictAnswer). a.refusal) e)))
verdict_tells (Ok (Short w d s)) (Err r) e = absurd (not_fine r (sym (ap (λ (a : VerdictAnswer). a.refusal) e)))
verdict_tells (Err r) (Ok Meets) e = absurd (not_fine r (ap (λ (a : VerdictAnswer). a.refusal) e))
verdict_tells (Err r) (Ok (Short w d s)) e = absurd (not_fine r (ap (λ (a : VerdictAnswer). a.refusal) e))
verdict_tells (Err r) (Err s) e = ap Err (as_refusal_same r s (ap (λ (a : VerdictAnswer). a.refusal) e))
