use Rattle.bforest_trees.proofs.Spots.{computed}
use Rattle.bforest_trees.proofs.Stepping.{next-at, spot-entry}
use Rattle.bforest_trees.proofs.trees.Trees.next.Goals as goal
use Rattle.bforest_trees.specs.Place.{AtSpot}
use Rattle.std.proofs.Common.{rules}

pub next-requires : goal.next-requires
next-requires g c =
    let at : AtSpot c.self.inside.pool c.args.handle c.args.path.now = rw (← c.self.view_is) at c.requires.stands in
    (search rules, (search rules, (c.self.invariant, spot-entry c.self.inside.pool c.args.path.now c.args.handle at.place at.spot)))

pub returns-clause-value : goal.returns-clause-value
returns-clause-value g c = λ at.
    let told = c.next.ensures in
    let here : AtSpot c.self.inside.pool c.args.handle c.args.path.now = rw (← c.self.view_is) at at in
    rw (← c.self.view_is) (next-at c.self.inside.pool c.args.path.now c.next.new.self c.next.result c.args.handle here.place here.spot told.value told.stands told.end told.stays).value

pub returns-clause-spot : goal.returns-clause-spot
returns-clause-spot g c = λ at.
    let told = c.next.ensures in
    let here : AtSpot c.self.inside.pool c.args.handle c.args.path.now = rw (← c.self.view_is) at at in
    rw (← c.self.view_is) (next-at c.self.inside.pool c.args.path.now c.next.new.self c.next.result c.args.handle here.place here.spot told.value told.stands told.end told.stays).spot

pub returns-clause-computed : goal.returns-clause-computed
returns-clause-computed g c = rw (← c.self.view_is) (computed g.row.N c.self.inside.pool c.args.handle c.self.invariant)
