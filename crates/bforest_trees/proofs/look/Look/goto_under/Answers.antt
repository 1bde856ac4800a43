use Rattle.std.proofs.Common.{refl, rules}
use Rattle.bforest_trees.proofs.Changed.{search-asks}
use Rattle.bforest_trees.proofs.look.Look.goto_under.Goals as goal

pub find-spot-requires : goal.find-spot-requires
find-spot-requires g c = (search rules, (c.requires.union, search-asks _ _ refl c.requires.live c.requires.increasing))

pub settle-requires : goal.settle-requires
settle-requires g c = (search rules, (c.requires.union, (c.find-spot.ensures.spot, c.find-spot.ensures.leaf)))
