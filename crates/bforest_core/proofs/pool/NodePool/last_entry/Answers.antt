use Rattle.bforest_core.proofs.{Words.{arith, leaf_content, refl, rules, slice_get_within}, walks.EndLeaves.{entry-asks, last-is, last-leaf, root-side}}
use Rattle.bforest_core.proofs.table.Stored.{keys_count}
use Rattle.bforest_core.proofs.pool.NodePool.last_entry.Goals as goal

pub last_leaf-leaf-requires : goal.last_leaf-leaf-requires
last_leaf-leaf-requires g c = (search rules, (c.requires.union.1.capacity, root-side c.requires.union c.requires.root _ refl))

pub last_index-last-requires : goal.last_index-last-requires
last_index-last-requires g c = let l = last-leaf c.requires.union c.requires.root c.last_leaf-leaf.ensures in
    (search rules, (leaf_content l.entries, l.slot_is, omega (arith, l.some, keys_count l.entries)))

pub node-requires : goal.node-requires
node-requires g c = (search rules, (search rules, slice_get_within c.args.self.now.nodes _ _ (last-leaf c.requires.union c.requires.root c.last_leaf-leaf.ensures).slot_is))

pub entry-requires : goal.entry-requires
entry-requires g c = let l = last-leaf c.requires.union c.requires.root c.last_leaf-leaf.ensures in
    (search rules, entry-asks l c.node.ensures.value (omega (arith, l.some, keys_count l.entries, c.last_index-last.ensures.last _ l.slot_is)))

pub returns : goal.returns
returns g c = record { entry = last-is (last-leaf c.requires.union c.requires.root c.last_leaf-leaf.ensures) c.node.ensures.value refl (c.last_index-last.ensures.last _ c.node.ensures.value) c.entry.ensures.key c.entry.ensures.value }
