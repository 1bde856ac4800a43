use Rattle.bforest_core.proofs.{Words.{rules, arith}, walks.Leading.{last-turns, led-asks, led-ends, led-goes, led-on}, walks.TopNode.node_held}
use Rattle.bforest_core.proofs.path.Path.+descend_last.Goals as goal

pub last_index-last-requires : goal.last_index-last-requires
last_index-last-requires g t c = (search rules, node_held c.requires.capacity c.requires.under.1)

pub returns-then-level-eq0-clause-led : goal.returns-then-level-eq0-clause-led
returns-then-level-eq0-clause-led g t c = let set = c.set_level.ensures in
    led-ends c.requires.capacity (last-turns c.requires.capacity c.last_index-last.ensures.last) c.if-level-eq0.true set.here set.node set.entry

pub child-child-requires : goal.child-child-requires
child-child-requires g t c = (search rules, led-asks c.requires.capacity (last-turns c.requires.capacity c.last_index-last.ensures.last) c.if-level-eq0.false c.requires.under)

pub descend_last-requires : goal.descend_last-requires
descend_last-requires g t c κs within = let turns = last-turns c.requires.capacity c.last_index-last.ensures.last in
    let goes = led-goes c.requires.capacity turns c.if-level-eq0.false c.child-child.ensures c.requires.under in
    (omega arith, (within.0, (within.1, ((λ a m. search rules), (search rules, (search rules, (c.requires.capacity, (omega arith, goes))))))))

pub returns-clause-led : goal.returns-clause-led
returns-clause-led g t c = let set = c.set_level.ensures in
    led-on c.requires.capacity (last-turns c.requires.capacity c.last_index-last.ensures.last) c.if-level-eq0.false c.child-child.ensures set.here set.node set.entry c.descend_last.ensures.led
