use Rattle.std.proofs.Common.{◌-◌}
use Rattle.tree_cases.proofs.Walks.{standing-on}
use Rattle.tree_cases.proofs.tree.prev.Goals as goal

pub returns : goal.returns
returns g c = standing-on _ _ c.args.root (c.requires.stands.place - 1) (c.prev.ensures.stands c.requires.stands)
