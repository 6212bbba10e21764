use mathlib.Core.Path.{sym, ◌∙◌}
use native.Mathlib.Omega.{arith}
use Rattle.guards.specs.Lent.{guards_of}
use Rattle.guards.proofs.Held.{leads_yes, onto_found, onto_none}
use Rattle.guards.proofs.Guards.onto.Goals as goal

pub returns-then-holds : goal.returns-then-holds
returns-then-holds c =
    let a = c.args in
    let l = c.loop-u in
    let g = guards_of a.self.now in
    let y = leads_yes g a.v a.x l.u (omega arith) c.if-self-u.true (sym c.holds.ensures ∙ c.if-holds.true) in
    onto_found g a.v a.x l.u (omega arith) y l.invariant.2

pub returns : goal.returns
returns c =
    let a = c.args in
    onto_none (guards_of a.self.now) a.v a.x (λ i l. c.loop-u.invariant.2 i (omega arith))
