use Rattle.bforest.proofs.Pairs.{both-searchable}
use Rattle.bforest.proofs.map.Map.is_disjoint.Goals as goal
use Rattle.std.proofs.Common.{rules}

pub are_apart-requires : goal.are_apart-requires
are_apart-requires g c = (search rules, rw (c.self.view_is, c.other.view_is, c.forest.view_is) (both-searchable c.requires.searchable c.requires.other))

pub returns : goal.returns
returns g c = rw (← c.self.view_is, ← c.other.view_is, ← c.forest.view_is) (record { apart = c.are_apart.ensures.apart })
