use Rattle.bforest_indexed.proofs.Sizes.{first-field}
use Rattle.bforest_indexed.proofs.sets.Sets.levels.Goals as goal

pub levels-requires : goal.levels-requires
levels-requires g c = (search first-field, (rw (← c.self.view_is) at c.set.ensures.searchable).live)

pub returns : goal.returns
returns g c = rw (← c.self.view_is, ← (rw (← c.self.view_is) at c.set.ensures.handle)) (record { count = c.levels.ensures.count; most = c.levels.ensures.most; depth = c.levels.ensures.depth; leaves = c.levels.ensures.leaves })
