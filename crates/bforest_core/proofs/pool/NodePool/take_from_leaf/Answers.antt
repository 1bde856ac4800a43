use Rattle.bforest_core.proofs.{Words.rules, insertion.LeafPut.leaf-used, removal.Healing.takes-from-leaf}
use Rattle.bforest_core.proofs.pool.NodePool.take_from_leaf.Goals as goal

pub take-requires : goal.take-requires
take-requires g c = let w = c.requires.leaf in let e = w.4 in (search rules, (leaf-used g.row.N c.requires.union e, (e.entries, e.slot_is, e.increasing)))

pub returns-clause-taken : goal.returns-clause-taken
returns-clause-taken g c = λ root path indices size e.
    takes-from-leaf g.row.N c.requires.union e c.take.result c.take.new.pool (c.take.ensures.answer e.entries e.slot_is) (c.take.ensures.node e.entries e.slot_is)
