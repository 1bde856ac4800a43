use Rattle.bforest_core.proofs.{Words.{rules, refl}, walks.Searches.search-root}
use Rattle.bforest_core.proofs.pool.NodePool.value_of.Goals as goal

pub value_below-requires : goal.value_below-requires
value_below-requires g c = (search rules, (c.requires.union.1.capacity, (_, search-root c.requires.union c.requires.root c.requires.increasing 0 refl)))

pub returns : goal.returns
returns g c = record { value = c.value_below.ensures _ (search-root c.requires.union c.requires.root c.requires.increasing 0 refl) }
