use Rattle.bforest_trees.proofs.unions.Fronts.{passed-both, passed-first, took-second}
use Rattle.bforest_trees.proofs.merge.take_new.Goals as goal
use Rattle.std.proofs.Common.{refl}

pub returns-in-Less : goal.returns-in-Less
returns-in-Less g c = rw c.in-Less.is (passed-first c.args.own.now c.args.other.now c.pass.new.self (rw c.in-Less.is at c.requires.holds) c.pass.ensures.rest)

pub returns-in-Greater : goal.returns-in-Greater
returns-in-Greater g c = let s = c.take_first in rw c.in-Greater.is (record {
  entry = s.result;
  found_is = refl;
  taken = λ table is second_is. took-second table c.args.own.now c.args.other.now is second_is s.result s.new.self s.ensures.key s.ensures.value s.ensures.rest;
})

pub returns-in-Equal : goal.returns-in-Equal
returns-in-Equal g c = rw c.in-Equal.is (passed-both c.args.own.now c.args.other.now c.pass-in-Equal.new.self c.pass-in-Equal-2.new.self (rw c.in-Equal.is at c.requires.holds) c.pass-in-Equal.ensures.rest c.pass-in-Equal-2.ensures.rest)
