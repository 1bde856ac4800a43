use Rattle.bforest_indexed.proofs.Sizes.{first-field}
use Rattle.bforest_indexed.proofs.sets.Sets.len_of.Goals as goal

pub len-requires : goal.len-requires
len-requires g c = (search first-field, (rw (← c.self.view_is) at c.set.ensures.searchable).live)

pub returns : goal.returns
returns g c = rw (← c.self.view_is, ← (rw (← c.self.view_is) at c.set.ensures.handle)) (record { count = c.len.ensures.count })
