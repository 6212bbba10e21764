-- `cases::questions::first` answers the question at the front, and nothing where the bytes are cut before its end. Assumes nothing.
use Rattle.std.proofs.Common.{◌<◌, List, ℕ, ◌++◌, length, ap, sym, ◌∙◌, arith}
use Rattle.cases.specs.Questions.{question_length}
use Rattle.cases.proofs.Parts.{head, joined}
use Rattle.cases.proofs.questions.first.Goals as goal

pub returns-in_err-steps-2-clause-question : goal.returns-in_err-steps-2-clause-question
returns-in_err-steps-2-clause-question c =
    let s = c.args.bytes.now in
    let says = head s c.in_ok-name.ensures.cases c.in_ok-first.ensures.cases c.in_ok-second.ensures.cases c.in_ok-steps.ensures.cases c.in_ok-bytes.ensures.cases in
    let cut : length s < question_length s = omega (arith, c.in_ok-name-2.ensures.cases, c.in_err-steps-2.ensures.cases) in
    rw c.from_residual-in_err-steps-2.ensures cut

pub returns-in_err-bytes-2-clause-question : goal.returns-in_err-bytes-2-clause-question
returns-in_err-bytes-2-clause-question c =
    let s = c.args.bytes.now in
    let says = head s c.in_ok-name.ensures.cases c.in_ok-first.ensures.cases c.in_ok-second.ensures.cases c.in_ok-steps.ensures.cases c.in_ok-bytes.ensures.cases in
    let cut : length s < question_length s = omega (arith, c.in_ok-name-2.ensures.cases, c.in_ok-steps-2.ensures.cases, c.in_err-bytes-2.ensures.cases) in
    rw c.from_residual-in_err-bytes-2.ensures cut

pub returns-clause-question : goal.returns-clause-question
returns-clause-question c =
    let says = head c.args.bytes.now c.in_ok-name.ensures.cases c.in_ok-first.ensures.cases c.in_ok-second.ensures.cases c.in_ok-steps.ensures.cases c.in_ok-bytes.ensures.cases in
    let name = c.in_ok-name-2.ensures.cases in
    let steps = c.in_ok-steps-2.ensures.cases in
    let bytes = c.in_ok-bytes-2.ensures.cases in
    record {
      whole = omega (arith, name, steps, bytes);
      kind = says.kind;
      first = c.from_be_bytes-3.ensures ∙ says.first;
      second = c.from_be_bytes-4.ensures ∙ says.second;
      name = name.3 ∙ c.from.ensures ∙ says.name;
      steps = steps.3 ∙ c.from-2.ensures ∙ c.from_be_bytes.ensures ∙ says.steps;
      bytes = bytes.3 ∙ c.from-3.ensures ∙ c.from_be_bytes-2.ensures ∙ says.bytes;
      parts = sym says.rest ∙ joined _ _ name
          ∙ ap (λ (xs : List ℕ). c.in_ok-name-2.name.now ++ xs) (joined _ _ steps ∙ ap (λ (xs : List ℕ). c.in_ok-steps-2.steps.now ++ xs) (joined _ _ bytes));
    }
