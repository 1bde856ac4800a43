use Rattle.bforest_core.proofs.{Words.rules, insertion.LeafPut.{is-full, leaf-used, puts-in-leaf}}
use Rattle.bforest_core.proofs.pool.NodePool.put_in_leaf.Goals as goal

pub put-requires : goal.put-requires
put-requires g c = let e = c.requires.leaf.4 in (search rules, (leaf-used _ c.requires.union e, (e.entries, e.slot_is, e.increasing)))

pub returns : goal.returns
returns g c = record {
  put = λ root path indices size e.
      puts-in-leaf _ c.requires.union e _ _ _ (c.put.ensures.answer e.entries e.slot_is) (c.put.ensures.node e.entries e.slot_is);
  full = let e = c.requires.leaf.4 in is-full _ c.requires.union e _ _ _ (c.put.ensures.answer e.entries e.slot_is) (c.put.ensures.node e.entries e.slot_is);
  most = search rules;
}
