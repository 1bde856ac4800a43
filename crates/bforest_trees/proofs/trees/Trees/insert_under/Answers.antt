use Rattle.bforest_trees.proofs.Changed.{search-asks}
use Rattle.bforest_trees.proofs.Entering.{added, at-key, key-found, key-missed, key-spot, new-spot, old-spot, on-key, overwritten, refused, to-key}
use Rattle.bforest_trees.proofs.trees.Trees.insert_under.Goals as goal
use Rattle.std.proofs.Common.{rules}

pub find_here-requires : goal.find_here-requires
find_here-requires g c = let asks = search-asks _ _ c.self.view_is c.requires.live c.requires.increasing in
    (search rules, (search rules, (c.self.invariant, (asks.0, (record { place = c.requires.stands.place; at = rw (← c.self.view_is) at c.requires.stands.spot }, asks.1)))))

pub set_value-requires : goal.set_value-requires
set_value-requires g c =
    let s = key-found (g.C.Comparator.order c.args.comp.now) c.args.key (rw (← c.self.view_is) at c.requires.live) c.find_here.ensures.value c.find_here.ensures.present c.in-Some.is in
    (search rules, (search rules, (c.self.invariant, on-key s)))

pub invariant_of-self : goal.invariant_of-self
invariant_of-self g c =
    let s = key-found (g.C.Comparator.order c.args.comp.now) c.args.key (rw (← c.self.view_is) at c.requires.live) c.find_here.ensures.value c.find_here.ensures.present c.in-Some.is in
    (c.set_value.ensures.written (on-key s)).union

pub returns-in-Some-clause-inserted : goal.returns-in-Some-clause-inserted
returns-in-Some-clause-inserted g c =
    let s = key-found (g.C.Comparator.order c.args.comp.now) c.args.key (rw (← c.self.view_is) at c.requires.live) c.find_here.ensures.value c.find_here.ensures.present c.in-Some.is in
    rw (c.requires.root, ← c.self.view_is) (overwritten s (g.met.C.Comparator.total c.args.comp.now) (rw (← c.self.view_is) at c.requires.increasing)
    (c.set_value.ensures.written (on-key s)) c.set_value.ensures.slots c.set_value.ensures.chain c.set_value.ensures.memory)

pub returns-in-Some-clause-spot : goal.returns-in-Some-clause-spot
returns-in-Some-clause-spot g c =
    let s = key-found (g.C.Comparator.order c.args.comp.now) c.args.key (rw (← c.self.view_is) at c.requires.live) c.find_here.ensures.value c.find_here.ensures.present c.in-Some.is in
    rw (c.requires.root, ← c.self.view_is) (key-spot s c.set_value.new.pool (c.set_value.ensures.stands (on-key s)))

pub insert-requires : goal.insert-requires
insert-requires g c =
    let s = key-missed (g.C.Comparator.order c.args.comp.now) c.args.key (rw (← c.self.view_is) at c.requires.live) c.find_here.ensures.value c.find_here.ensures.absent c.in_default.is in
    (search rules, (search rules, (c.self.invariant, at-key s)))

pub normalize-requires : goal.normalize-requires
normalize-requires g c =
    let s = key-missed (g.C.Comparator.order c.args.comp.now) c.args.key (rw (← c.self.view_is) at c.requires.live) c.find_here.ensures.value c.find_here.ensures.absent c.in_default.is in
    (search rules, (search rules, (rw c.in-Err.ensures.refused_pool c.self.invariant, (λ some. to-key s c.in-Err.ensures.refused_pool c.in-Err.ensures.refused_path))))

pub returns-in-Err-clause-inserted : goal.returns-in-Err-clause-inserted
returns-in-Err-clause-inserted g c =
    let s = key-missed (g.C.Comparator.order c.args.comp.now) c.args.key (rw (← c.self.view_is) at c.requires.live) c.find_here.ensures.value c.find_here.ensures.absent c.in_default.is in
    let e = at-key s in
    rw (c.requires.root, c.in-Err.ensures.refused_pool, ← c.self.view_is)
    (refused s.gap (c.insert.ensures.full e) (rw (← c.self.view_is) at c.requires.increasing) c.in-Err.is (c.insert.ensures.memory e) (c.insert.ensures.enough e))

pub returns-in-Err-clause-spot : goal.returns-in-Err-clause-spot
returns-in-Err-clause-spot g c =
    let s = key-missed (g.C.Comparator.order c.args.comp.now) c.args.key (rw (← c.self.view_is) at c.requires.live) c.find_here.ensures.value c.find_here.ensures.absent c.in_default.is in
    let spot = c.normalize.ensures.stands (to-key s c.in-Err.ensures.refused_pool c.in-Err.ensures.refused_path) in
    rw (c.requires.root, c.in-Err.ensures.refused_pool, ← c.self.view_is) (old-spot s (rw c.in-Err.ensures.refused_pool at spot))

pub invariant_of-self-2 : goal.invariant_of-self-2
invariant_of-self-2 g c =
    let s = key-missed (g.C.Comparator.order c.args.comp.now) c.args.key (rw (← c.self.view_is) at c.requires.live) c.find_here.ensures.value c.find_here.ensures.absent c.in_default.is in
    (c.in-Ok.ensures.inserted (at-key s)).union

pub returns-clause-inserted : goal.returns-clause-inserted
returns-clause-inserted g c =
    let s = key-missed (g.C.Comparator.order c.args.comp.now) c.args.key (rw (← c.self.view_is) at c.requires.live) c.find_here.ensures.value c.find_here.ensures.absent c.in_default.is in
    let e = at-key s in
    rw (c.some.ensures.node, ← c.self.view_is) (added s.gap (c.insert.ensures.full e) (g.met.C.Comparator.total c.args.comp.now)
    (rw (← c.self.view_is) at c.requires.increasing) c.in-Ok.is (c.in-Ok.ensures.inserted e) (c.in-Ok.ensures.account e) (c.in-Ok.ensures.same_root e))

pub returns-clause-spot : goal.returns-clause-spot
returns-clause-spot g c =
    let s = key-missed (g.C.Comparator.order c.args.comp.now) c.args.key (rw (← c.self.view_is) at c.requires.live) c.find_here.ensures.value c.find_here.ensures.absent c.in_default.is in
    rw (c.some.ensures.node, ← c.self.view_is) (new-spot s c.insert.new.pool (c.in-Ok.ensures.stands (at-key s)))

pub returns-in-Some-clause-union : goal.returns-in-Some-clause-union
returns-in-Some-clause-union g c = invariant_of-self g c

pub returns-in-Err-clause-union : goal.returns-in-Err-clause-union
returns-in-Err-clause-union g c = rw c.in-Err.ensures.refused_pool c.self.invariant

pub returns-clause-union : goal.returns-clause-union
returns-clause-union g c = invariant_of-self-2 g c
