use Rattle.std.proofs.Common.{arith, rules}
use Rattle.bforest_trees.proofs.Crossing.{last-behind, last-look, last-some}
use Rattle.bforest_trees.proofs.look.Look.enter_last.Goals as goal

pub enter-requires : goal.enter-requires
enter-requires g c = let u = c.requires.leaf.2 in (search rules, (c.requires.leaf.0, u.start, u.from))

pub overflow_sub-self : goal.overflow_sub-self
overflow_sub-self g c = let u = c.requires.leaf.2 in last-some u (c.enter.ensures.holds c.requires.leaf.0 u.start u.from) (c.enter.ensures.count c.requires.leaf.0 u.start u.from)

pub returns : goal.returns
returns g c = record {
  look = λ handle place u. last-look u (c.enter.ensures.holds handle u.start u.from) (c.enter.ensures.count handle u.start u.from);
  some = let u = c.requires.leaf.2 in omega (arith, last-some u (c.enter.ensures.holds c.requires.leaf.0 u.start u.from) (c.enter.ensures.count c.requires.leaf.0 u.start u.from));
  behind = λ handle place u. last-behind u (c.enter.ensures.holds handle u.start u.from) (c.enter.ensures.count handle u.start u.from);
}
