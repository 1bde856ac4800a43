use Rattle.bforest_trees.proofs.Cutting.{IsTaken, spot-at, taken-at}
use Rattle.bforest_trees.proofs.Spots.{computed}
use Rattle.bforest_trees.proofs.Spots.{spot-on}
use Rattle.bforest_trees.proofs.trees.Trees.remove_at.Given.{Over}
use Rattle.bforest_trees.proofs.trees.Trees.remove_at.Goals.{After-packed}
use Rattle.bforest_trees.proofs.trees.Trees.remove_at.Goals as goal
use Rattle.bforest_trees.specs.Place.{OnSpot}
use Rattle.std.proofs.Common.{rules}

pub remove-requires : goal.remove-requires
remove-requires g c =
    let at : OnSpot c.self.inside.pool c.args.handle.now c.args.path.now = rw (← c.self.view_is) at c.requires.stands in
    let t = spot-on c.self.inside.pool c.args.path.now c.args.handle.now at.place at.spot at.within in
    (search rules, (search rules, (c.self.invariant, record { root = t.0; place = at.place; on = t.2 })))

-- what the removal leaves
taken : (g : Over) (c : After-packed g) (at : OnSpot c.self.inside.pool c.args.handle.now c.args.path.now) → IsTaken g.row.N c.self.inside.pool c.remove.new.pool c.args.handle.now at.place c.remove.result
taken g c at =
    let told = c.remove.ensures in
    taken-at g.row.N c.self.inside.pool c.remove.new.pool c.args.handle.now c.args.path.now c.remove.result at told.removed told.account told.same_root told.last told.ended told.none_left told.freed_root

pub invariant_of-self : goal.invariant_of-self
invariant_of-self g c = (taken g c (rw (← c.self.view_is) at c.requires.stands)).union

pub returns-clause-removed : goal.returns-clause-removed
returns-clause-removed g c = λ at.
    let t = taken g c (rw (← c.self.view_is) at at) in
    rw (c.packed.ensures, ← c.self.view_is) t.removed

pub returns-clause-sizes : goal.returns-clause-sizes
returns-clause-sizes g c = λ at.
    let t = taken g c (rw (← c.self.view_is) at at) in
    rw (c.packed.ensures, ← c.self.view_is) t.sizes

pub returns-clause-spot : goal.returns-clause-spot
returns-clause-spot g c = λ at.
    let told = c.remove.ensures in
    rw c.packed.ensures (spot-at g.row.N c.self.inside.pool c.remove.new.pool c.args.handle.now c.args.path.now c.remove.new.self c.remove.result (rw (← c.self.view_is) at at) told.stands told.last told.end)

pub returns-clause-lowers : goal.returns-clause-lowers
returns-clause-lowers g c =
    let t = taken g c (rw (← c.self.view_is) at c.requires.stands) in
    rw (c.packed.ensures, ← c.self.view_is) t.lowers

pub returns-clause-account : goal.returns-clause-account
returns-clause-account g c =
    let t = taken g c (rw (← c.self.view_is) at c.requires.stands) in
    rw (c.packed.ensures, ← c.self.view_is) t.account

pub returns-clause-computed : goal.returns-clause-computed
returns-clause-computed g c = computed g.row.N c.remove.new.pool c.packed.result (invariant_of-self g c)
