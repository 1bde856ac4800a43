use Rattle.bforest_trees.proofs.Changed.{search-asks}
use Rattle.bforest_trees.proofs.Ensuring.{was-new, was-updated}
use Rattle.bforest_trees.proofs.Entering.{absent-on, ends-there}
use Rattle.bforest_trees.proofs.values.Updating.{entry-there, is-value, updates-there, written-there}
use Rattle.bforest_trees.proofs.trees.Trees.update_or_insert_under.Goals as goal
use Rattle.std.proofs.Common.{rules}

pub find-way-requires : goal.find-way-requires
find-way-requires g c =
    (search rules, (c.self.invariant, search-asks _ _ c.self.view_is c.requires.live c.requires.increasing))

pub look_up_in_leaf-place-requires : goal.look_up_in_leaf-place-requires
look_up_in_leaf-place-requires g c = let w = c.find-way.ensures.ends in
    (search rules, (c.self.invariant, (c.args.root, w.path, w.indices, w.size, ends-there w c.leaf-leaf.ensures.leaf)))

pub change-changed-requires : goal.change-changed-requires
change-changed-requires g c = let w = c.find-way.ensures.ends in let looked = c.look_up_in_leaf-place.ensures.found c.args.root _ _ _ (ends-there w c.leaf-leaf.ensures.leaf) in
    c.requires.callable c.in-Some.stored (rw (← c.self.view_is) (is-value g.row.N (g.C.Comparator.order c.args.comp.now) c.self.invariant (rw (← c.self.view_is) at c.requires.live) looked c.in-Some.is))

pub value_mut-requires : goal.value_mut-requires
value_mut-requires g c = let w = c.find-way.ensures.ends in let looked = c.look_up_in_leaf-place.ensures.found c.args.root _ _ _ (ends-there w c.leaf-leaf.ensures.leaf) in
    let used = entry-there g.row.N (g.C.Comparator.order c.args.comp.now) c.self.invariant (rw (← c.self.view_is) at c.requires.live) looked c.in-Some.is in (search rules, (used.0, used.1))

pub invariant_of-self : goal.invariant_of-self
invariant_of-self g c = let w = c.find-way.ensures.ends in let looked = c.look_up_in_leaf-place.ensures.found c.args.root _ _ _ (ends-there w c.leaf-leaf.ensures.leaf) in
    written-there g.row.N (g.C.Comparator.order c.args.comp.now) c.self.invariant (rw (← c.self.view_is) at c.requires.live) looked c.in-Some.is _

pub returns-in-Some : goal.returns-in-Some
returns-in-Some g c = let w = c.find-way.ensures.ends in let looked = c.look_up_in_leaf-place.ensures.found c.args.root _ _ _ (ends-there w c.leaf-leaf.ensures.leaf) in
    rw (c.requires.root, ← c.self.view_is) (was-updated (rw (← c.self.view_is) at c.requires.increasing)
    (updates-there g.row.N (g.C.Comparator.order c.args.comp.now) c.self.invariant (rw (← c.self.view_is) at c.requires.live) looked c.in-Some.is (g.met.C.Comparator.total c.args.comp.now)
    (rw (← c.self.view_is) at c.requires.increasing) c.change-changed.ensures))

pub insert_absent-requires : goal.insert_absent-requires
insert_absent-requires g c = let w = c.find-way.ensures.ends in let looked = c.look_up_in_leaf-place.ensures.found c.args.root _ _ _ (ends-there w c.leaf-leaf.ensures.leaf) in
    let gap = absent-on (g.met.C.Comparator.total c.args.comp.now) (rw (← c.self.view_is) at c.requires.live) (rw (← c.self.view_is) at c.requires.increasing) w looked c.in-None.is in
    (search rules, (c.requires.root, (c.look_up_in_leaf-place.ensures.most, (g.C.Comparator.order c.args.comp.now, rw (← c.self.view_is) gap))))

pub returns-in-None : goal.returns-in-None
returns-in-None g c = let w = c.find-way.ensures.ends in let looked = c.look_up_in_leaf-place.ensures.found c.args.root _ _ _ (ends-there w c.leaf-leaf.ensures.leaf) in
    let gap = absent-on (g.met.C.Comparator.total c.args.comp.now) (rw (← c.self.view_is) at c.requires.live) (rw (← c.self.view_is) at c.requires.increasing) w looked c.in-None.is in
    was-new c.requires.live (c.insert_absent.ensures.inserted (g.C.Comparator.order c.args.comp.now) (rw (← c.self.view_is) gap)) c.insert_absent.ensures.value
