-- `record::read` meets its contract: what the fields refuse is refused, else what the judge refuses, else the fields' answer stands.
-- Assumes nothing.
use Rattle.std.proofs.Common.{◌≡◌, sym, ap, ◌∙◌, List, ℕ, arith}
use Rattle.std.proofs.lemmas.Result.{err_from_is_err_and}
use Rattle.table.specs.declared.Table.{Table}
use Rattle.table.specs.declared.Refusal.{Refusal}
use Rattle.table.specs.declared.refused.Refused.{Refused}
use Rattle.table.specs.Rules.{fine, judged}
use Rattle.table.specs.Reasons.{number, as_refusal}
use Rattle.table.proofs.Reasons.{number_some}
use Rattle.record.specs.declared.ReadAnswer.{ReadAnswer}
use Rattle.record.specs.Reading.{refused, accepted, fields_of, read_of}
use Rattle.record.proofs.Fields.{read_refused, read_judged, read_accepted}
use Rattle.record.proofs.read.Goals as goal

some : (r : Refused) → number r.reason ≡ 0 → ⊥
some r z = let (k, e) = number_some r.reason in absurd (omega arith)

module _ (s : List ℕ) where
  unread : (r : Refused) → refused (as_refusal r) ≡ fields_of s → refused (as_refusal r) ≡ read_of s
  unread r f = f ∙ sym (read_refused s (λ z. some r (ap (λ (a : ReadAnswer). a.refusal.number) f ∙ z)))

  module _ (t : Table) (f : accepted t ≡ fields_of s) where
    accepted_fields : (fields_of s).refusal.number ≡ 0
    accepted_fields = sym (ap (λ (a : ReadAnswer). a.refusal.number) f)

    unjudged : judged (fields_of s).table ≡ judged t
    unjudged = sym (ap (λ (a : ReadAnswer). judged a.table) f)

    misjudged : (r : Refused) → as_refusal r ≡ judged t → refused (as_refusal r) ≡ read_of s
    misjudged r j =
        let e = j ∙ sym unjudged in
        ap refused e ∙ sym (read_judged s accepted_fields (λ z. some r (ap (λ (x : Refusal). x.number) e ∙ z)))

    read_whole : fine ≡ judged t → accepted t ≡ read_of s
    read_whole j = f ∙ sym (read_accepted s accepted_fields (sym (ap (λ (x : Refusal). x.number) (j ∙ sym unjudged))))

pub returns-in_err-table : goal.returns-in_err-table
returns-in_err-table c =
    let y = err_from_is_err_and c.from_residual.result c.from_residual.ensures.1 in
    rw (y.1, y.2) (unread _ _ c.in_err-table.ensures)

pub returns-in_err-judge : goal.returns-in_err-judge
returns-in_err-judge c =
    let y = err_from_is_err_and c.from_residual-in_err-judge.result c.from_residual-in_err-judge.ensures.1 in
    rw (y.1, y.2) (misjudged _ _ c.in_ok-table.ensures _ c.in_err-judge.ensures.refusal)

pub returns : goal.returns
returns c = read_whole _ _ c.in_ok-table.ensures c.in_ok-judge.ensures.refusal
