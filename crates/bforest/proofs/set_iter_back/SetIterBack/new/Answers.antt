use Rattle.std.proofs.Common.{ap, ◌∙◌}
use Rattle.std.specs.Map.{keys_of}
use Rattle.bforest.proofs.Sets.{keys-reverse}
use Rattle.bforest_trees.proofs.Looking.{back-ready, back-whole}
use Rattle.bforest_trees.specs.Forest.{list_of}
use Rattle.bforest.proofs.set_iter_back.SetIterBack.new.Goals as goal

pub invariant_of-result : goal.invariant_of-result
invariant_of-result g c = back-ready (rw (← c.forest.view_is, ← c.set.view_is) at c.requires) (c.end.ensures.look c.forest.inside.trees c.set.inside.root)

pub returns-clause-keys : goal.returns-clause-keys
returns-clause-keys g c = rw (← c.forest.view_is, ← c.set.view_is) (ap keys_of (back-whole (c.end.ensures.look c.forest.inside.trees c.set.inside.root)) ∙ keys-reverse (list_of c.forest.inside.trees c.set.inside.root))
