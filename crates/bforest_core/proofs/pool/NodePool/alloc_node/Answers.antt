use Rattle.bforest_core.proofs.{Words.{ap, arith, length, rules}, union.NewLeaf.takes-front}
use Rattle.bforest_core.proofs.pool.NodePool.alloc_node.Goals as goal

pub push_leaf-requires : goal.push_leaf-requires
push_leaf-requires g c = (search rules, omega (arith, c.self.invariant.counted, ap (λ z. length z.chain) c.self.view_is, c.if-self-eq0.true))

pub take_slot-node-requires : goal.take_slot-node-requires
take_slot-node-requires g c = (search rules, omega (arith, c.self.invariant.counted, ap (λ z. length z.chain) c.self.view_is, c.if-self-eq0.false))

pub node_mut-requires : goal.node_mut-requires
node_mut-requires g c = (search rules, (search rules, c.take_slot-node.ensures.used))

pub returns : goal.returns
returns g c = let t = c.take_slot-node.ensures in
    takes-front c.args.self.now c.args.key c.args.value (omega (arith, c.self.invariant.counted, ap (λ z. length z.chain) c.self.view_is, c.if-self-eq0.false)) t.node t.table t.used c.leaf.ensures.node
