use Rattle.std.proofs.Common.{refl, rules}
use Rattle.bforest.proofs.map.Map.shift.Goals as goal

pub shift-requires : goal.shift-requires
shift-requires g c = (search rules, rw (c.self.view_is, c.forest.view_is) (c.requires.searchable.live, (c.requires.searchable.increasing, c.requires.callable)))

pub returns : goal.returns
returns g c = record { shifted = rw (← c.self.view_is, ← c.forest.view_is) c.shift.ensures; handle = refl }
