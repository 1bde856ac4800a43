use Rattle.bforest_trees.proofs.Spots.{computed}
use Rattle.bforest_trees.proofs.Stepping.{prev-at}
use Rattle.bforest_trees.proofs.trees.Trees.prev.Goals as goal
use Rattle.std.proofs.Common.{sym, ◌∙◌}

pub returns : goal.returns
returns g c =
    let told = c.prev.ensures in
    let p = c.self.inside.pool in
    rw (← c.self.view_is) (record {
      value = λ at. (prev-at p c.args.path.now c.prev.new.self c.prev.result c.args.handle c.in_ok-root.root at.place (sym c.expand.ensures.value ∙ c.in_ok-root.was) at.spot told.value told.stands).value;
      spot = λ at. (prev-at p c.args.path.now c.prev.new.self c.prev.result c.args.handle c.in_ok-root.root at.place (sym c.expand.ensures.value ∙ c.in_ok-root.was) at.spot told.value told.stands).spot;
      computed = computed g.row.N p c.args.handle c.self.invariant;
    })
