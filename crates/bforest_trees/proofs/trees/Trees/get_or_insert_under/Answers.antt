use Rattle.bforest_trees.proofs.Changed.{list-root, live-root, search-asks}
use Rattle.bforest_trees.proofs.Ensuring.{found-there, was-absent, was-there}
use Rattle.bforest_trees.proofs.Entering.{absent-on, ends-there}
use Rattle.bforest_trees.proofs.trees.Trees.get_or_insert_under.Goals as goal
use Rattle.bforest_core.specs.Paths.{list_under}
use Rattle.std.proofs.Common.{Some, rules}

pub find-way-requires : goal.find-way-requires
find-way-requires g c =
    (search rules, (c.self.invariant, search-asks _ _ c.self.view_is c.requires.live c.requires.increasing))

pub look_up_in_leaf-index-requires : goal.look_up_in_leaf-index-requires
look_up_in_leaf-index-requires g c = let w = c.find-way.ensures.ends in
    (search rules, (c.self.invariant, (c.args.root, w.path, w.indices, w.size, ends-there w c.leaf.ensures.leaf)))

pub returns-in-Some : goal.returns-in-Some
returns-in-Some g c = let w = c.find-way.ensures.ends in let looked = c.look_up_in_leaf-index.ensures.found c.args.root _ _ _ (ends-there w c.leaf.ensures.leaf) in
    let p = c.self.inside.pool in
    let cmp = g.C.Comparator.order c.args.comp.now in
    let live = rw (← c.self.view_is) at c.requires.live in
    let there = found-there g.row.N cmp p (Some c.args.root) c.args.key c.args.value (list_under p c.args.root) c.look_up_in_leaf-index.result.1 c.in-Some.stored (list-root p c.args.root (live-root p c.args.root live)) looked.value c.in-Some.is in
    rw (c.requires.root, ← c.self.view_is) (was-there g.row.N cmp p (Some c.args.root) c.args.key c.args.value c.in-Some.stored there live (rw (← c.self.view_is) at c.requires.increasing))

pub insert_absent-requires : goal.insert_absent-requires
insert_absent-requires g c = let w = c.find-way.ensures.ends in let looked = c.look_up_in_leaf-index.ensures.found c.args.root _ _ _ (ends-there w c.leaf.ensures.leaf) in
    let gap = absent-on (g.met.C.Comparator.total c.args.comp.now) (rw (← c.self.view_is) at c.requires.live) (rw (← c.self.view_is) at c.requires.increasing) w looked c.in-None.is in
    (search rules, (c.requires.root, (c.look_up_in_leaf-index.ensures.most, (g.C.Comparator.order c.args.comp.now, rw (← c.self.view_is) gap))))

pub returns-in-None : goal.returns-in-None
returns-in-None g c = let w = c.find-way.ensures.ends in let looked = c.look_up_in_leaf-index.ensures.found c.args.root _ _ _ (ends-there w c.leaf.ensures.leaf) in
    let gap = absent-on (g.met.C.Comparator.total c.args.comp.now) (rw (← c.self.view_is) at c.requires.live) (rw (← c.self.view_is) at c.requires.increasing) w looked c.in-None.is in
    was-absent c.requires.live (c.insert_absent.ensures.inserted (g.C.Comparator.order c.args.comp.now) (rw (← c.self.view_is) gap)) c.insert_absent.ensures.value
