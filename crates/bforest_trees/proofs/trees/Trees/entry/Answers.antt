use Rattle.bforest_trees.proofs.Spots.{computed}
use Rattle.bforest_trees.proofs.Stepping.{entry-at, spot-entry}
use Rattle.bforest_trees.proofs.trees.Trees.entry.Goals as goal
use Rattle.bforest_trees.specs.Place.{AtSpot}
use Rattle.std.proofs.Common.{rules}

pub entry-requires : goal.entry-requires
entry-requires g c =
    let at : AtSpot c.self.inside.pool c.args.handle c.args.path.now = rw (← c.self.view_is) at c.requires.stands in
    (search rules, (search rules, (c.self.invariant, spot-entry c.self.inside.pool c.args.path.now c.args.handle at.place at.spot)))

pub returns : goal.returns
returns g c = record {
  value = λ at.
      let here : AtSpot c.self.inside.pool c.args.handle c.args.path.now = rw (← c.self.view_is) at at in
      rw (← c.self.view_is) (entry-at c.self.inside.pool c.args.path.now c.entry.result c.args.handle here.place here.spot c.entry.ensures.value c.entry.ensures.end);
  computed = rw (← c.self.view_is) (computed g.row.N c.self.inside.pool c.args.handle c.self.invariant);
}
