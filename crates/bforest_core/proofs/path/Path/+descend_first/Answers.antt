use Rattle.bforest_core.proofs.{Words.{rules, arith}, walks.Leading.{first-turns, led-asks, led-ends, led-goes, led-on}}
use Rattle.bforest_core.proofs.path.Path.+descend_first.Goals as goal

pub returns-then-level-eq0-clause-led : goal.returns-then-level-eq0-clause-led
returns-then-level-eq0-clause-led g t c =
    let set = c.set_level.ensures in led-ends c.requires.capacity first-turns c.if-level-eq0.true set.here set.node set.entry

pub child-child-requires : goal.child-child-requires
child-child-requires g t c = (search rules, led-asks c.requires.capacity first-turns c.if-level-eq0.false c.requires.under)

pub descend_first-requires : goal.descend_first-requires
descend_first-requires g t c κs within = let goes = led-goes c.requires.capacity first-turns c.if-level-eq0.false c.child-child.ensures c.requires.under in
    (omega arith, (within.0, (within.1, ((λ a m. search rules), (search rules, (search rules, (c.requires.capacity, (omega arith, goes))))))))

pub returns-clause-led : goal.returns-clause-led
returns-clause-led g t c = let set = c.set_level.ensures in
    led-on c.requires.capacity first-turns c.if-level-eq0.false c.child-child.ensures set.here set.node set.entry c.descend_first.ensures.led
