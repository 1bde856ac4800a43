use Rattle.std.proofs.Common.{rules}
use Rattle.std.proofs.lemmas.Option.{slice_get_within}
use Rattle.bforest_trees.proofs.Held.{count-read, holds-leaf, leaf-read}
use Rattle.bforest_trees.proofs.look.Look.enter.Goals as goal

pub node-requires : goal.node-requires
node-requires g c = (search rules, (search rules, slice_get_within c.args.pool.now.nodes _ _ c.requires.leaf.2.leaf.slot_is))

pub unwrap_leaf-requires : goal.unwrap_leaf-requires
unwrap_leaf-requires g c = (search rules, leaf-read c.requires.leaf.2 c.node.ensures.value)

pub returns-clause-holds : goal.returns-clause-holds
returns-clause-holds g c = λ handle start from. holds-leaf from c.node.ensures.value c.unwrap_leaf.ensures.value

pub returns-clause-count : goal.returns-clause-count
returns-clause-count g c = λ handle start from. count-read from c.node.ensures.value c.unwrap_leaf.ensures.value
