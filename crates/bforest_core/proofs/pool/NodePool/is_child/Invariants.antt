use Rattle.bforest_core.proofs.Words.{◌≡◌, take, flat_map, children_of, count}
use Rattle.bforest_core.proofs.pool.NodePool.is_child.Given as goal

abbrev pub invariant-loop-number : goal.invariant-loop-number
invariant-loop-number g l = count l.fn.node (flat_map children_of (take l.number l.fn.self.nodes)) ≡ 0
