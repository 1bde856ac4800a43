use Rattle.std.proofs.Common.{refl, rules}
use Rattle.std.proofs.lemmas.Option.{slice_get_within}
use Rattle.bforest_trees.proofs.Readers.{entered, held-leaf}
use Rattle.bforest_trees.proofs.reader.Reader.at.Goals as goal

pub node-requires : goal.node-requires
node-requires g c = (search rules, (search rules, slice_get_within c.args.pool.now.nodes _ _ c.requires.opens.1.leaf.slot_is))

pub unwrap_leaf-requires : goal.unwrap_leaf-requires
unwrap_leaf-requires g c = (search rules, held-leaf c.args.pool.now.nodes _ _ _ c.node.ensures.value c.requires.opens.1.leaf.slot_is)

pub returns : goal.returns
returns g c = record { entered = λ left o. entered c.args.pool.now left c.args.root c.args.spot _ _ _ o c.node.ensures.value c.unwrap_leaf.ensures.value refl refl refl; root = refl }
