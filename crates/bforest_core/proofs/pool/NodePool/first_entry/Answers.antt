use Rattle.bforest_core.proofs.{Words.{refl, rules, slice_get_within}, walks.EndLeaves.{entry-asks, first-is, first-leaf, root-side}}
use Rattle.bforest_core.proofs.pool.NodePool.first_entry.Goals as goal

pub first_leaf-leaf-requires : goal.first_leaf-leaf-requires
first_leaf-leaf-requires g c = (search rules, (c.requires.union.1.capacity, root-side c.requires.union c.requires.root _ refl))

pub node-requires : goal.node-requires
node-requires g c = (search rules, (search rules, slice_get_within c.args.self.now.nodes _ _ (first-leaf c.requires.union c.requires.root c.first_leaf-leaf.ensures).slot_is))

pub entry-requires : goal.entry-requires
entry-requires g c = let l = first-leaf c.requires.union c.requires.root c.first_leaf-leaf.ensures in (search rules, entry-asks l c.node.ensures.value l.some)

pub returns : goal.returns
returns g c = record { entry = first-is (first-leaf c.requires.union c.requires.root c.first_leaf-leaf.ensures) c.node.ensures.value refl c.entry.ensures.key c.entry.ensures.value }
