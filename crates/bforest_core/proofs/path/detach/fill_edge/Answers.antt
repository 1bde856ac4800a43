use Rattle.bforest_core.proofs.Words.{rules, arith}
use Rattle.bforest_core.proofs.union.EdgeFilled.{child-asks, fill-asks, filling-first, filling-last, filling-next, stepped}
use Rattle.bforest_core.proofs.path.detach.fill_edge.Goals as goal

pub loop-up-init : goal.loop-up-init
loop-up-init g c = λ leaves rows first rest o. filling-first c.requires.capacity o

pub fill_child-requires : goal.fill_child-requires
fill_child-requires g c = let w = c.requires.edge in let at = (c.loop-up.invariant w.0 w.1 w.2 w.3 w.4).at in
    (search rules, (c.requires.capacity, fill-asks c.requires.capacity at c.loop-up-test.true c.half_capacity.ensures.leaf c.half_capacity.ensures.inner))

pub child-first-requires : goal.child-first-requires
child-first-requires g c = let w = c.requires.edge in let at = (c.loop-up.invariant w.0 w.1 w.2 w.3 w.4).at in
    (search rules, child-asks (stepped c.requires.capacity at c.loop-up-test.true c.half_capacity.ensures.leaf c.half_capacity.ensures.inner c.fill_child.ensures))

pub loop-up-preserved : goal.loop-up-preserved
loop-up-preserved g c = λ leaves rows first rest o. let f = c.loop-up.invariant leaves rows first rest o in
    filling-next f (stepped c.requires.capacity f.at c.loop-up-test.true c.half_capacity.ensures.leaf c.half_capacity.ensures.inner c.fill_child.ensures) c.child-first.ensures

pub returns : goal.returns
returns g c = λ leaves rows first rest o. filling-last (c.loop-up.invariant leaves rows first rest o) (omega (arith, c.loop-up-test.false))
