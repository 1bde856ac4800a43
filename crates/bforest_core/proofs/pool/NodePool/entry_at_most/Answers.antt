use Rattle.bforest_core.proofs.{Words.{rules, ◌∙◌}, walks.LeafSearch.up-to-narrowed}
use Rattle.bforest_core.proofs.pool.NodePool.entry_at_most.Goals as goal

pub leaf_of-leaf-requires : goal.leaf_of-leaf-requires
leaf_of-leaf-requires g c = (search rules, (c.requires.union, (c.requires.root, c.requires.increasing)))

pub entry_in_leaf-requires : goal.entry_in_leaf-requires
entry_in_leaf-requires g c =
    let s = c.leaf_of-leaf.ensures.leaf.1 in (search rules, (c.requires.union.1.capacity, (s.leaf.entries, s.leaf.slot_is, s.tells.increasing)))

pub returns : goal.returns
returns g c = let s = c.leaf_of-leaf.ensures.leaf.1 in
    record { entry = c.entry_in_leaf.ensures s.leaf.entries s.leaf.slot_is ∙ up-to-narrowed (g.met.C.Comparator.total c.args.comp.now) _ s.leaf.after s.leaf.leaves_are s.tells }
