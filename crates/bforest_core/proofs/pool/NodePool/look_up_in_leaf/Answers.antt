use Rattle.bforest_core.proofs.{Words.rules, insertion.LeafPut.looks-in-leaf}
use Rattle.bforest_core.proofs.pool.NodePool.look_up_in_leaf.Goals as goal

pub look_up-requires : goal.look_up-requires
look_up-requires g c = let e = c.requires.leaf.4 in (search rules, (c.requires.union.1.capacity, (e.entries, e.slot_is, e.increasing)))

pub returns : goal.returns
returns g c = record {
  found = λ root path indices size e. looks-in-leaf _ c.requires.union e (c.look_up.ensures.place e.entries e.slot_is) (c.look_up.ensures.value e.entries e.slot_is);
  most = search rules;
}
