use Rattle.bforest.proofs.Pairs.{both-searchable}
use Rattle.bforest.proofs.set.Set.union_with.Goals as goal
use Rattle.std.proofs.Common.{rules}

pub unite-requires : goal.unite-requires
unite-requires g c = (search rules, rw (c.self.view_is, c.other.view_is, c.forest.view_is) (both-searchable c.requires.searchable c.requires.other))

pub returns : goal.returns
returns g c = rw (← c.self.view_is, ← c.other.view_is, ← c.forest.view_is) c.unite.ensures
