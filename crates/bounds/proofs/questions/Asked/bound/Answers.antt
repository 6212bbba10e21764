use Rattle.std.proofs.Common.{◌≡◌, ◌∙◌, ℕ, ◌*◌, ◌<◌, arith}
use Rattle.theory.specs.Cycles.{system, least_of}
use Rattle.table.specs.Table.{tree_of}
use Rattle.table.specs.Columns.{entry}
use Rattle.table.proofs.Known.{well_formed}
use Rattle.supply.proofs.Supply.{least_small, supply_least}
use Rattle.bounds.specs.Flagged.{asks}
use Rattle.bounds.proofs.questions.Asked.bound.Goals as goal

pub leasts-requires : goal.leasts-requires
leasts-requires c = omega (arith, (well_formed c.args.self.now.table).period)

pub at-requires-clause-in_bounds : goal.at-requires-clause-in_bounds
at-requires-clause-in_bounds c = let p = (well_formed c.args.self.now.table).period in (p.0, p.1, omega (arith, p, c.cycle.ensures.upper_bound), c.requires)

pub at-requires-clause-filled_in_bounds : goal.at-requires-clause-filled_in_bounds
at-requires-clause-filled_in_bounds c w l =
    let a = c.args in
    let t = well_formed a.self.now.table in
    omega (arith, c.leasts.ensures.each w (omega (arith, l)), least_small (tree_of a.self.now.table.table.now) t.formed (asks a.self.now.own a.self.now.queue) w, t.period)

pub returns : goal.returns
returns c =
    let a = c.args in
    let t = a.self.now.table.table.now in
    let filled_is : (w : ℕ) → w < 2 * t.period → entry c.leasts.new.out w ≡ least_of (system (tree_of t)) (asks a.self.now.own a.self.now.queue) w =
    λ w l. c.leasts.ensures.each w (omega (arith, l)) in
    c.at.ensures ∙ supply_least (tree_of t) (well_formed a.self.now.table).formed (asks a.self.now.own a.self.now.queue) c.leasts.new.out c.cycle.result filled_is c.cycle.ensures.value a.window
