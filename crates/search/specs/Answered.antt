-- A verdict, or why there is none, as C is given it.
use Rattle.std.specs.Prelude.{Result, Ok, Err}
use Rattle.table.specs.declared.refused.Refused.{Refused}
use Rattle.table.specs.Reasons.{as_refusal}
use Rattle.search.specs.declared.Verdict.{Verdict}
use Rattle.search.specs.declared.Verdict.TheVariants.{Meets, Short}
use Rattle.search.specs.declared.VerdictAnswer.{VerdictAnswer}
use Rattle.search.specs.Answers.{refused_answer, meets_answer, short_answer}

abbrev pub verdict_answered : Result Verdict Refused → VerdictAnswer
verdict_answered (Ok Meets) = meets_answer
verdict_answered (Ok (Short window demand supply)) = short_answer window demand supply
verdict_answered (Err r) = refused_answer (as_refusal r)
