use Rattle.bforest_trees.proofs.Removing.{lost, removed-union, removes-absent, removes-present}
use Rattle.bforest_trees.proofs.Entering.{ends-at-root}
use Rattle.bforest_trees.proofs.trees.Trees.remove_alone.Goals as goal
use Rattle.bforest_core.proofs.walks.Leaves.{lone}
use Rattle.bforest_core.specs.Paths.{list_under}
use Rattle.bforest_nodes.specs.Entries.{place}
use Rattle.std.proofs.Common.{rules, set}

pub take_from_leaf-requires : goal.take_from_leaf-requires
take_from_leaf-requires g c = (
  search rules,
  (
    c.self.invariant,
    (
      c.args.root,
      lone c.args.root,
      lone 0,
      1,
      ends-at-root (g.met.C.Comparator.total c.args.comp.now) c.self.view_is c.self.invariant c.requires.live c.requires.leaf c.requires.increasing,
    ),
  ),
)

pub heal_alone-requires : goal.heal_alone-requires
heal_alone-requires g c =
    let ends = ends-at-root (g.met.C.Comparator.total c.args.comp.now) c.self.view_is c.self.invariant c.requires.live c.requires.leaf c.requires.increasing in
    let took = c.take_from_leaf.ensures.taken c.args.root _ _ _ ends in (
      search rules,
      (
        c.self.inside.pool,
        place (g.C.Comparator.order c.args.comp.now) (list_under c.self.inside.pool c.args.root) c.args.key,
        lone c.args.root,
        set (lone 0) 0 c.in_ok-taken.taken.0,
        lost (rw (← c.self.view_is) at c.requires.live) (rw (← c.self.view_is) at c.requires.increasing) took c.in_ok-taken.was,
      ),
    )

pub invariant_of-self : goal.invariant_of-self
invariant_of-self g c =
    let ends = ends-at-root (g.met.C.Comparator.total c.args.comp.now) c.self.view_is c.self.invariant c.requires.live c.requires.leaf c.requires.increasing in
    rw ((c.take_from_leaf.ensures.taken c.args.root _ _ _ ends).absent c.in_err-taken.was) c.self.invariant

pub returns-in_err-taken : goal.returns-in_err-taken
returns-in_err-taken g c =
    let ends = ends-at-root (g.met.C.Comparator.total c.args.comp.now) c.self.view_is c.self.invariant c.requires.live c.requires.leaf c.requires.increasing in
    rw (c.requires.root, c.from_residual.ensures, ← c.self.view_is) (removes-absent (rw (← c.self.view_is) at c.requires.live)
    (rw (← c.self.view_is) at c.requires.increasing) (c.take_from_leaf.ensures.taken c.args.root _ _ _ ends) (g.met.C.Comparator.total c.args.comp.now) c.in_err-taken.was)

pub invariant_of-self-2 : goal.invariant_of-self-2
invariant_of-self-2 g c =
    let ends = ends-at-root (g.met.C.Comparator.total c.args.comp.now) c.self.view_is c.self.invariant c.requires.live c.requires.leaf c.requires.increasing in
    let took = c.take_from_leaf.ensures.taken c.args.root _ _ _ ends in
    let live = rw (← c.self.view_is) at c.requires.live in
    let increasing = rw (← c.self.view_is) at c.requires.increasing in
    removed-union live increasing took c.in_ok-taken.was (c.heal_alone.ensures.healed _ _ _ _ (lost live increasing took c.in_ok-taken.was))

pub returns : goal.returns
returns g c =
    let ends = ends-at-root (g.met.C.Comparator.total c.args.comp.now) c.self.view_is c.self.invariant c.requires.live c.requires.leaf c.requires.increasing in
    let took = c.take_from_leaf.ensures.taken c.args.root _ _ _ ends in
    let live = rw (← c.self.view_is) at c.requires.live in
    let increasing = rw (← c.self.view_is) at c.requires.increasing in
    rw (c.packed.ensures, ← c.self.view_is)
    (removes-present live increasing took c.in_ok-taken.was (c.heal_alone.ensures.healed _ _ _ _ (lost live increasing took c.in_ok-taken.was)) (g.met.C.Comparator.total c.args.comp.now))
