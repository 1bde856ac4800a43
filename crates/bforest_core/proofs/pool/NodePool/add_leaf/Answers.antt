use Rattle.bforest_core.proofs.{Words.rules, table.Allocating.{taken_is, used_written}}
use Rattle.bforest_core.proofs.pool.NodePool.add_leaf.Goals as goal

pub node_mut-requires : goal.node_mut-requires
node_mut-requires g c = (search rules, (search rules, c.take_slot-leaf.ensures.used))

pub leaf_of-requires : goal.leaf_of-requires
leaf_of-requires g c = (search rules, (c.requires.some, c.requires.few))

pub returns : goal.returns
returns g c = record {
  table = taken_is _ c.take_slot-leaf.ensures.node c.take_slot-leaf.ensures.table c.leaf_of.ensures.node;
  used = used_written _ _ _ c.take_slot-leaf.ensures.used;
  node = search rules;
}
