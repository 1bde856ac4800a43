use Rattle.std.proofs.Common.{arith, length, min, rules, ◌+◌}
use Rattle.bforest_trees.proofs.Looking.{past-leaf, step-look}
use Rattle.bforest_trees.specs.Forest.{list_of}
use Rattle.bforest_trees.proofs.look.Look.step_on.Goals as goal

pub returns-then-self-clause-look : goal.returns-then-self-clause-look
returns-then-self-clause-look g c = λ at. step-look at.is c.if-self.true

pub enter_next-requires : goal.enter_next-requires
enter_next-requires g c =
    let at = c.requires.stands in
    (search rules, (c.requires.union, (min (at.place + 1) (length (list_of c.args.pool.now c.args.handle)), past-leaf at.is c.if-self.false)))

pub returns : goal.returns
returns g c = record {
  look = λ at. c.enter_next.ensures.look (min (at.place + 1) (length (list_of c.args.pool.now c.args.handle))) (past-leaf at.is c.if-self.false);
  some = c.enter_next.ensures.some;
  none = λ no at. omega (arith, c.enter_next.ensures.none no (min (at.place + 1) (length (list_of c.args.pool.now c.args.handle))) (past-leaf at.is c.if-self.false));
}
