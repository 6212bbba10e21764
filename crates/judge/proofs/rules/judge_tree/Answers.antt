-- What the rules say of the columns they say of the table, and each rule that is kept hands on to the next, with what it requires.
use Rattle.std.proofs.Common.{◌≡◌, refl, sym, ap, ◌∙◌, ℕ, ◌<◌, not, rules, arith}
use lib.Dec.{T}
use Rattle.laws.specs.Found.{Found, nobody, first}
use Rattle.laws.proofs.First.{first_nobody}
use Rattle.table.specs.declared.Refusal.{Refusal}
use Rattle.table.specs.declared.Table.{Table}
use Rattle.table.specs.Reasons.{as_refusal, outcome}
use Rattle.table.specs.Rules.{breaks_shape, breaks_gap, breaks_overlap, breaks_period, refuse, fine, lowest_location, location_place}
use Rattle.table.proofs.Unbroken.{refuse_nobody}
use Rattle.table.proofs.Reasons.{not_zero}
use Rattle.guards.specs.declared.Guards.{Guards}
use Rattle.guards.specs.Children.{gap_in, overlap_in}
use Rattle.guards.specs.Lent.{guards_of, ReadFrom}
use Rattle.judge.proofs.Agree.{low_first, gap_read, overlap_read, period_read, falls_read}
use Rattle.judge.proofs.Lowest.{refused, passed}
use Rattle.judge.proofs.rules.judge_tree.Goals as goal

-- ---- what each rule hands on to

abbrev from_period : Table → Refusal
from_period t = refuse 8 location_place (lowest_location t breaks_period) fine

abbrev from_overlap : Table → Refusal
from_overlap t = refuse 7 location_place (lowest_location t breaks_overlap) (from_period t)

abbrev from_gap : Table → Refusal
from_gap t = refuse 6 location_place (lowest_location t breaks_gap) (from_overlap t)

abbrev from_shape : Table → Refusal
from_shape t = refuse 5 location_place (lowest_location t breaks_shape) (from_gap t)

-- ---- rules that are kept

module _ (t : Table) (g : Guards) (read : ReadFrom t g) where
  module _ (e : fine ≡ refuse 5 location_place (lowest_location t breaks_shape) fine) where
    shape_kept : lowest_location t breaks_shape ≡ nobody
    shape_kept = passed 5 location_place fine (lowest_location t breaks_shape) (omega arith) e refl

    after_shape : from_gap t ≡ from_shape t
    after_shape = sym (refuse_nobody 5 location_place (lowest_location t breaks_shape) (from_gap t) shape_kept)

    unbroken : (v : ℕ) → v < t.locations → T (not (breaks_shape t v))
    unbroken v l = first_nobody (breaks_shape t) t.locations v shape_kept l

  module _ (e : fine ≡ refuse 6 location_place (first (gap_in (guards_of g)) 0 g.n) fine) where
    gap_kept : first (gap_in (guards_of g)) 0 g.n ≡ nobody
    gap_kept = passed 6 location_place fine (first (gap_in (guards_of g)) 0 g.n) (omega arith) e refl

    no_gap : (v : ℕ) → v < g.n → T (not (gap_in (guards_of g) v))
    no_gap v m = first_nobody (gap_in (guards_of g)) g.n v gap_kept m

    after_gap : from_overlap t ≡ from_gap t
    after_gap = sym (refuse_nobody 6 location_place (lowest_location t breaks_gap) (from_overlap t) (sym (gap_read t g read) ∙ gap_kept))

  module _ (e : fine ≡ refuse 7 location_place (first (overlap_in (guards_of g)) 0 g.n) fine) where
    overlap_kept : first (overlap_in (guards_of g)) 0 g.n ≡ nobody
    overlap_kept = passed 7 location_place fine (first (overlap_in (guards_of g)) 0 g.n) (omega arith) e refl

    after_overlap : from_period t ≡ from_overlap t
    after_overlap = sym (refuse_nobody 7 location_place (lowest_location t breaks_overlap) (from_period t) (sym (overlap_read t g read) ∙ overlap_kept))

-- ---- the goals

pub of-guards-requires-clause-some_value : goal.of-guards-requires-clause-some_value
of-guards-requires-clause-some_value c = λ v z. low_first c.args.table.now c.requires.values v

pub returns-in_err-judge_shape : goal.returns-in_err-judge_shape
returns-in_err-judge_shape c =
    let t = c.args.table.now in
    let e = c.in_err-judge_shape.field-0.0 in
    let given : outcome c.from_residual.result ≡ as_refusal e = search rules in
    given ∙ refused 5 location_place (as_refusal e) (lowest_location t breaks_shape) (from_gap t) c.in_err-judge_shape.ensures (not_zero e)

pub returns-in_err-judge_gap : goal.returns-in_err-judge_gap
returns-in_err-judge_gap c =
    let t = c.args.table.now in
    let g = c.of-guards.result in
    let e = c.in_err-judge_gap.field-0.0 in
    let given : outcome c.from_residual-in_err-judge_gap.result ≡ as_refusal e = search rules in
    given
    ∙ (refused 6 location_place (as_refusal e) (first (gap_in (guards_of g)) 0 g.n) (from_overlap t) c.in_err-judge_gap.ensures (not_zero e)
    ∙ (ap (λ (o : Found). refuse 6 location_place o (from_overlap t)) (gap_read t g c.of-guards.ensures)
    ∙ after_shape t g c.of-guards.ensures c.in_ok-judge_shape.ensures))

pub judge_overlap-requires : goal.judge_overlap-requires
judge_overlap-requires c = record { no_gap = no_gap c.args.table.now c.of-guards.result c.of-guards.ensures c.in_ok-judge_gap.ensures }

pub returns-in_err-judge_overlap : goal.returns-in_err-judge_overlap
returns-in_err-judge_overlap c =
    let t = c.args.table.now in
    let g = c.of-guards.result in
    let read = c.of-guards.ensures in
    let e = c.in_err-judge_overlap.field-0.0 in
    let given : outcome c.from_residual-in_err-judge_overlap.result ≡ as_refusal e = search rules in
    given
    ∙ (refused 7 location_place (as_refusal e) (first (overlap_in (guards_of g)) 0 g.n) (from_period t) c.in_err-judge_overlap.ensures (not_zero e)
    ∙ (ap (λ (o : Found). refuse 7 location_place o (from_period t)) (overlap_read t g read)
    ∙ (after_gap t g read c.in_ok-judge_gap.ensures ∙ after_shape t g read c.in_ok-judge_shape.ensures)))

pub judge_period-requires : goal.judge_period-requires
judge_period-requires c =
    let t = c.args.table.now in
    let g = c.of-guards.result in
    falls_read t g c.of-guards.ensures (unbroken t g c.of-guards.ensures c.in_ok-judge_shape.ensures)

pub returns : goal.returns
returns c =
    let t = c.args.table.now in
    let g = c.of-guards.result in
    let read = c.of-guards.ensures in
    c.judge_period.ensures
    ∙ (ap (λ (x : Found). refuse 8 location_place x fine) (period_read t g read _ c.ticks.ensures)
    ∙ (after_overlap t g read c.in_ok-judge_overlap.ensures
    ∙ (after_gap t g read c.in_ok-judge_gap.ensures ∙ after_shape t g read c.in_ok-judge_shape.ensures)))
