use Rattle.bforest_core.proofs.{Words.{rules, refl}, table.Allocating.{taken_is, used_written}}
use Rattle.bforest_core.proofs.pool.NodePool.add_node.Goals as goal

pub node_mut-requires : goal.node_mut-requires
node_mut-requires g c = (search rules, (search rules, c.take_slot-node.ensures.used))

pub returns : goal.returns
returns g c = record {
  table = taken_is _ c.take_slot-node.ensures.node c.take_slot-node.ensures.table refl;
  used = used_written _ _ _ c.take_slot-node.ensures.used;
  node = search rules;
}
