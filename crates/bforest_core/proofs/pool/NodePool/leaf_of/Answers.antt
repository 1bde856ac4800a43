use Rattle.bforest_core.proofs.{Words.{rules, refl}, walks.Searches.search-root}
use Rattle.bforest_core.proofs.pool.NodePool.leaf_of.Goals as goal

pub leaf_below-requires : goal.leaf_below-requires
leaf_below-requires g c = (search rules, (c.requires.union.1.capacity, (c.args.root, search-root c.requires.union c.requires.root c.requires.increasing 0 refl)))

pub returns : goal.returns
returns g c = record { leaf = c.leaf_below.ensures c.args.root (search-root c.requires.union c.requires.root c.requires.increasing 0 refl) }
