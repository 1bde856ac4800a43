use Rattle.bforest_trees.proofs.Changed.{search-asks}
use Rattle.bforest_trees.proofs.Entering.{ends-there}
use Rattle.bforest_trees.proofs.Removing.{lost, removed-union, removes-absent, removes-present}
use Rattle.bforest_trees.proofs.trees.Trees.remove_below.Goals as goal
use Rattle.bforest_core.proofs.walks.Ways.{taken-on}
use Rattle.bforest_core.specs.Paths.{list_under}
use Rattle.bforest_nodes.specs.Entries.{place}
use Rattle.std.proofs.Common.{rules}

pub find-way-requires : goal.find-way-requires
find-way-requires g c =
    (search rules, (c.self.invariant, search-asks _ _ c.self.view_is c.requires.live c.requires.increasing))

pub take_from_leaf-requires : goal.take_from_leaf-requires
take_from_leaf-requires g c = let w = c.find-way.ensures.ends in
    (search rules, (c.self.invariant, (c.args.root, w.path, w.indices, w.size, ends-there w c.leaf.ensures.leaf)))

pub heal_on-requires : goal.heal_on-requires
heal_on-requires g c = let w = c.find-way.ensures.ends in let took = c.take_from_leaf.ensures.taken c.args.root _ _ _ (ends-there w c.leaf.ensures.leaf) in
    let lost = lost (rw (← c.self.view_is) at c.requires.live) (rw (← c.self.view_is) at c.requires.increasing) took c.in_ok-taken.was in
    (search rules, (rw c.in_ok-taken.was at c.take_from_leaf.ensures.most, (c.self.inside.pool, place (g.C.Comparator.order c.args.comp.now) (list_under c.self.inside.pool c.args.root) c.args.key, taken-on w lost)))

pub invariant_of-self : goal.invariant_of-self
invariant_of-self g c = let w = c.find-way.ensures.ends in
    rw ((c.take_from_leaf.ensures.taken c.args.root _ _ _ (ends-there w c.leaf.ensures.leaf)).absent c.in_err-taken.was) c.self.invariant

pub returns-in_err-taken : goal.returns-in_err-taken
returns-in_err-taken g c = let w = c.find-way.ensures.ends in
    rw (c.requires.root, c.from_residual.ensures, ← c.self.view_is) (removes-absent (rw (← c.self.view_is) at c.requires.live)
    (rw (← c.self.view_is) at c.requires.increasing) (c.take_from_leaf.ensures.taken c.args.root _ _ _ (ends-there w c.leaf.ensures.leaf)) (g.met.C.Comparator.total c.args.comp.now) c.in_err-taken.was)

pub invariant_of-self-2 : goal.invariant_of-self-2
invariant_of-self-2 g c = let w = c.find-way.ensures.ends in let took = c.take_from_leaf.ensures.taken c.args.root _ _ _ (ends-there w c.leaf.ensures.leaf) in
    let live = rw (← c.self.view_is) at c.requires.live in let increasing = rw (← c.self.view_is) at c.requires.increasing in
    removed-union live increasing took c.in_ok-taken.was (c.heal_on.ensures.healed _ _ (taken-on w (lost live increasing took c.in_ok-taken.was))).shrinks

pub returns : goal.returns
returns g c = let w = c.find-way.ensures.ends in let took = c.take_from_leaf.ensures.taken c.args.root _ _ _ (ends-there w c.leaf.ensures.leaf) in
    let live = rw (← c.self.view_is) at c.requires.live in let increasing = rw (← c.self.view_is) at c.requires.increasing in
    rw (c.packed.ensures, ← c.self.view_is) (removes-present live increasing took c.in_ok-taken.was
    (c.heal_on.ensures.healed _ _ (taken-on w (lost live increasing took c.in_ok-taken.was))).shrinks (g.met.C.Comparator.total c.args.comp.now))
