use Rattle.std.proofs.Common.{rules}
use Rattle.std.proofs.lemmas.Option.{IfSome_then}
use Rattle.bforest_core.specs.Spots.{leaf_place}
use Rattle.bforest_trees.proofs.trees.range.Ends.next_leaf.Goals as goal

pub next-requires : goal.next-requires
next-requires g c = (search rules, (c.requires.union, λ _. (_, c.requires.gap.front c.if-self.true)))

pub returns-then-self-clause-some : goal.returns-then-self-clause-some
returns-then-self-clause-some g c = rw c.if-self.true (IfSome_then c.next.result c.next.ensures.some (λ found said. said (leaf_place c.args.pool.now c.args.root c.args.self.now.spot) (c.requires.gap.front c.if-self.true)))

pub returns-then-self-clause-none : goal.returns-then-self-clause-none
returns-then-self-clause-none g c = λ none. rw c.if-self.true (c.next.ensures.none none (leaf_place c.args.pool.now c.args.root c.args.self.now.spot) (c.requires.gap.front c.if-self.true))
