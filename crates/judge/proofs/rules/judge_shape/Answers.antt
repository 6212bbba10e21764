use Rattle.std.proofs.Common.{◌≡◌, ◌∙◌, not, ◌&&◌, ◌||◌, rules, arith}
use lib.Dec.{eqb}
use Rattle.table.specs.Columns.{leaf_over}
use Rattle.table.specs.Table.{location_at}
use Rattle.table.specs.Rules.{is_placed, breaks_shape, location_place}
use Rattle.judge.proofs.Agree.{shape_read}
use Rattle.judge.proofs.rules.judge_shape.Goals as goal

pub returns : goal.returns
returns c =
    let t = c.args.table.now in
    let g = c.args.guards.now in
    c.lowest.ensures.refusal (breaks_shape t) location_place
    (λ v b l h.
    let says : b ≡ not (is_placed (location_at t v) v && (eqb (location_at t v).variable 0 || not (leaf_over g.parents g.n v))) = search rules in
    says ∙ shape_read t g c.requires.of_table v)
    (λ v. omega arith)
