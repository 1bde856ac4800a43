use Rattle.bforest_core.proofs.{Words.{rules, ◌+◌, refl, arith, add-one}, walks.Turning.{both, here-last, turn-above, turn-asks}}
use Rattle.bforest_core.proofs.path.Path.+next_turn.Goals as goal

pub has_child-requires : goal.has_child-requires
has_child-requires g t c = (search rules, (search rules, turn-asks c.requires.over.3 c.if-level-self.false c.requires.height))

pub returns-then-has_child-clause-turns : goal.returns-then-has_child-clause-turns
returns-then-has_child-clause-turns g t c = λ other entries slot. (c.has_child.ensures.within entries slot).0 c.if-has_child.true

pub next_turn-requires : goal.next_turn-requires
next_turn-requires g t c κs within =
    (omega arith, (within.0, (within.1, ((λ a m. search rules), (search rules, (search rules, (c.requires.height, turn-above (c.args.level + 1) c.requires.over.3 c.if-level-self.false (add-one _))))))))

pub returns-clause-last : goal.returns-clause-last
returns-clause-last g t c = both c.args.level (c.args.level + 1) c.next_turn.result (here-last c.args.pool.now.nodes c.args.self.now.node c.args.self.now.entry
    refl (add-one _) c.has_child.ensures.within c.if-has_child.false) c.next_turn.ensures.last
