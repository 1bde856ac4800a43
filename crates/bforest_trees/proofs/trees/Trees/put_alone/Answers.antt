use Rattle.bforest_trees.proofs.Entering.{ends-at-root, leaf-put, leaf-union}
use Rattle.bforest_trees.proofs.trees.Trees.put_alone.Goals as goal
use Rattle.bforest_core.proofs.walks.Leaves.{lone, placed-alone}
use Rattle.bforest_core.specs.Paths.{list_under}
use Rattle.bforest_nodes.specs.Entries.{place}
use Rattle.std.proofs.Common.{ap, get_or, rules, sym, ◌∙◌}

pub put_in_leaf-requires : goal.put_in_leaf-requires
put_in_leaf-requires g c = (
  search rules,
  (
    c.self.invariant,
    (
      c.args.root,
      lone c.args.root,
      lone 0,
      1,
      ends-at-root (g.met.C.Comparator.total c.args.comp.now) c.self.view_is c.self.invariant c.requires.live c.requires.leaf c.requires.increasing,
    ),
  ),
)

pub invariant_of-self : goal.invariant_of-self
invariant_of-self g c =
    let ends = ends-at-root (g.met.C.Comparator.total c.args.comp.now) c.self.view_is c.self.invariant c.requires.live c.requires.leaf c.requires.increasing in
    leaf-union (g.met.C.Comparator.total c.args.comp.now) (rw (← c.self.view_is) at c.requires.live)
    (rw (← c.self.view_is) at c.requires.increasing) (c.put_in_leaf.ensures.put c.args.root _ _ _ ends) c.in-Ok.old c.in-Ok.is

pub returns-in-Ok : goal.returns-in-Ok
returns-in-Ok g c =
    let ends = ends-at-root (g.met.C.Comparator.total c.args.comp.now) c.self.view_is c.self.invariant c.requires.live c.requires.leaf c.requires.increasing in
    rw (c.requires.root, ← c.self.view_is) (leaf-put (g.met.C.Comparator.total c.args.comp.now) (rw (← c.self.view_is) at c.requires.live)
    (rw (← c.self.view_is) at c.requires.increasing) (c.put_in_leaf.ensures.put c.args.root _ _ _ ends) c.in-Ok.old c.in-Ok.is)

pub set_index-requires : goal.set_index-requires
set_index-requires g c = (search rules, c.put_in_leaf.ensures.most c.in-Err.index c.in-Err.is)

pub invariant_of-self-in-Err : goal.invariant_of-self-in-Err
invariant_of-self-in-Err g c =
    let ends = ends-at-root (g.met.C.Comparator.total c.args.comp.now) c.self.view_is c.self.invariant c.requires.live c.requires.leaf c.requires.increasing in
    rw ((c.put_in_leaf.ensures.put c.args.root _ _ _ ends).refused c.in-Err.index c.in-Err.is) c.self.invariant

pub put_at-requires : goal.put_at-requires
put_at-requires g c =
    let ends = ends-at-root (g.met.C.Comparator.total c.args.comp.now) c.self.view_is c.self.invariant c.requires.live c.requires.leaf c.requires.increasing in
    let wrote = c.put_in_leaf.ensures.put c.args.root _ _ _ ends in
    let same = wrote.refused c.in-Err.index c.in-Err.is in
    let leaf = ap (λ z. get_or z 0 0) c.set_index.ensures.node ∙ c.set_root_node.ensures.leaf in (
      search rules,
      (
        search rules,
        (
          (
            c.args.root,
            place (g.C.Comparator.order c.args.comp.now) (list_under c.self.inside.pool c.args.root) c.args.key,
            c.requires.root,
            rw (same, c.set_index.ensures.size, c.set_root_node.ensures.size)
                (placed-alone c.self.inside.pool.nodes c.args.root _ _ _ _ (sym leaf) (sym c.set_index.ensures.index) (wrote.placed c.in-Err.index c.in-Err.is)),
          ),
          rw (same, leaf) (c.put_in_leaf.ensures.full c.in-Err.index c.in-Err.is),
        ),
      ),
    )

pub returns-in-Err : goal.returns-in-Err
returns-in-Err g c =
    let ends = ends-at-root (g.met.C.Comparator.total c.args.comp.now) c.self.view_is c.self.invariant c.requires.live c.requires.leaf c.requires.increasing in
    let wrote = c.put_in_leaf.ensures.put c.args.root _ _ _ ends in
    let same = wrote.refused c.in-Err.index c.in-Err.is in
    let leaf = ap (λ z. get_or z 0 0) c.set_index.ensures.node ∙ c.set_root_node.ensures.leaf in
    rw (← c.self.view_is, ← same) (c.put_at.ensures c.args.root (g.C.Comparator.order c.args.comp.now) c.requires.root
    (rw same (rw (← c.self.view_is) at c.requires.live)) (g.met.C.Comparator.total c.args.comp.now) (rw same (rw (← c.self.view_is) at c.requires.increasing))
    (rw same (wrote.full c.in-Err.index c.in-Err.is)) (rw (same, c.set_index.ensures.size, c.set_root_node.ensures.size)
    (placed-alone c.self.inside.pool.nodes c.args.root _ _ _ _ (sym leaf) (sym c.set_index.ensures.index) (wrote.placed c.in-Err.index c.in-Err.is))))
