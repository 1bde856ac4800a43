use Rattle.bforest_trees.proofs.After.{handed-on}
use Rattle.bforest_trees.proofs.Changed.{search-asks}
use Rattle.bforest_trees.proofs.Entering.{IsGone, added-on, ends-there, leaf-put, leaf-union, refused-on}
use Rattle.bforest_trees.proofs.trees.Trees.put_below.Goals as goal
use Rattle.bforest_core.proofs.walks.Ways.{placed-on}
use Rattle.bforest_core.specs.Paths.{list_under}
use Rattle.bforest_nodes.specs.Entries.{place}
use Rattle.std.proofs.Common.{rules}

pub find-way-requires : goal.find-way-requires
find-way-requires g c =
    (search rules, (c.self.invariant, search-asks _ _ c.self.view_is c.requires.live c.requires.increasing))

pub put_in_leaf-requires : goal.put_in_leaf-requires
put_in_leaf-requires g c = let w = c.find-way.ensures.ends in
    (search rules, (c.self.invariant, (c.args.root, w.path, w.indices, w.size, ends-there w c.leaf.ensures.leaf)))

pub invariant_of-self : goal.invariant_of-self
invariant_of-self g c = let w = c.find-way.ensures.ends in leaf-union (g.met.C.Comparator.total c.args.comp.now) (rw (← c.self.view_is) at c.requires.live)
    (rw (← c.self.view_is) at c.requires.increasing) (c.put_in_leaf.ensures.put c.args.root _ _ _ (ends-there w c.leaf.ensures.leaf)) c.in-Ok.old c.in-Ok.is

pub returns-in-Ok : goal.returns-in-Ok
returns-in-Ok g c = let w = c.find-way.ensures.ends in
    rw (c.requires.root, ← c.self.view_is) (leaf-put (g.met.C.Comparator.total c.args.comp.now) (rw (← c.self.view_is) at c.requires.live)
    (rw (← c.self.view_is) at c.requires.increasing) (c.put_in_leaf.ensures.put c.args.root _ _ _ (ends-there w c.leaf.ensures.leaf)) c.in-Ok.old c.in-Ok.is)

pub put_on-requires : goal.put_on-requires
put_on-requires g c = let w = c.find-way.ensures.ends in let wrote = c.put_in_leaf.ensures.put c.args.root _ _ _ (ends-there w c.leaf.ensures.leaf) in
    let same = wrote.refused c.in-Err.index c.in-Err.is in (
      search rules,
      (
        rw same c.self.invariant,
        (
          c.put_in_leaf.ensures.most c.in-Err.index c.in-Err.is,
          (
            (
              place (g.C.Comparator.order c.args.comp.now) (list_under c.self.inside.pool c.args.root) c.args.key,
              rw same (placed-on w (wrote.placed c.in-Err.index c.in-Err.is)),
            ),
            rw (same, ← c.leaf.ensures.leaf) (c.put_in_leaf.ensures.full c.in-Err.index c.in-Err.is),
          ),
        ),
      ),
    )

pub invariant_of-self-in_err-root-in-Err : goal.invariant_of-self-in_err-root-in-Err
invariant_of-self-in_err-root-in-Err g c = let w = c.find-way.ensures.ends in let wrote = c.put_in_leaf.ensures.put c.args.root _ _ _ (ends-there w c.leaf.ensures.leaf) in
    let same = wrote.refused c.in-Err.index c.in-Err.is in
    let told = c.in_err-root-in-Err.ensures.put (place (g.C.Comparator.order c.args.comp.now) (list_under c.self.inside.pool c.args.root) c.args.key)
    (rw same (placed-on w (wrote.placed c.in-Err.index c.in-Err.is))) in
    rw (told.refused, same) c.self.invariant

pub returns-in_err-root-in-Err : goal.returns-in_err-root-in-Err
returns-in_err-root-in-Err g c = let w = c.find-way.ensures.ends in let wrote = c.put_in_leaf.ensures.put c.args.root _ _ _ (ends-there w c.leaf.ensures.leaf) in
    let same = wrote.refused c.in-Err.index c.in-Err.is in let s : IsGone (g.C.Comparator.order c.args.comp.now) c.self.inside.pool c.args.root c.args.key =
    record { live = rw (← c.self.view_is) at c.requires.live; none = wrote.full c.in-Err.index c.in-Err.is } in
    let told = c.in_err-root-in-Err.ensures.put (place (g.C.Comparator.order c.args.comp.now) (list_under c.self.inside.pool c.args.root) c.args.key)
    (rw same (placed-on w (wrote.placed c.in-Err.index c.in-Err.is))) in
    rw (handed-on c.from_residual.ensures.1, c.requires.root, told.refused, same, ← c.self.view_is)
    (refused-on s same (rw (← c.self.view_is) at c.requires.increasing) told)

pub invariant_of-self-in-Err : goal.invariant_of-self-in-Err
invariant_of-self-in-Err g c = let w = c.find-way.ensures.ends in let wrote = c.put_in_leaf.ensures.put c.args.root _ _ _ (ends-there w c.leaf.ensures.leaf) in
    let same = wrote.refused c.in-Err.index c.in-Err.is in
    let told = c.in_ok-root-in-Err.ensures.put (place (g.C.Comparator.order c.args.comp.now) (list_under c.self.inside.pool c.args.root) c.args.key)
    (rw same (placed-on w (wrote.placed c.in-Err.index c.in-Err.is))) in
    told.inserted.union

pub returns-in_ok-root-in-Err : goal.returns-in_ok-root-in-Err
returns-in_ok-root-in-Err g c = let w = c.find-way.ensures.ends in let wrote = c.put_in_leaf.ensures.put c.args.root _ _ _ (ends-there w c.leaf.ensures.leaf) in
    let same = wrote.refused c.in-Err.index c.in-Err.is in let s : IsGone (g.C.Comparator.order c.args.comp.now) c.self.inside.pool c.args.root c.args.key =
    record { live = rw (← c.self.view_is) at c.requires.live; none = wrote.full c.in-Err.index c.in-Err.is } in
    let told = c.in_ok-root-in-Err.ensures.put (place (g.C.Comparator.order c.args.comp.now) (list_under c.self.inside.pool c.args.root) c.args.key)
    (rw same (placed-on w (wrote.placed c.in-Err.index c.in-Err.is))) in
    rw (c.some.ensures.node, ← c.self.view_is) (added-on s same (rw (← c.self.view_is) at c.requires.increasing)
    (g.met.C.Comparator.total c.args.comp.now) told)
