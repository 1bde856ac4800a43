use Rattle.bforest_core.proofs.{Words.{rules, ◌≡◌, Some, slice_get, ◌<◌, slice_get_within, Leaf, IsLeaf, entry_count}, table.Stored.read_as}
use Rattle.bforest_nodes.specs.Content.{keys_of}
use Rattle.bforest_core.proofs.access.leaf_key.Goals as goal

pub node-requires : goal.node-requires
node-requires g c = (search rules, (search rules, slice_get_within _ _ (Leaf c.requires.0 c.requires.1) c.requires.2))

pub leaf_crit_key-requires : goal.leaf_crit_key-requires
leaf_crit_key-requires g c = let w = c.requires in (search rules, read_as w.2 c.node.ensures.value (λ z. IsLeaf z × (0 < entry_count z)) (tt, w.3))

pub returns : goal.returns
returns g c = λ keys vals slot. read_as c.node.ensures.value slot (λ z. slice_get (keys_of z) 0 ≡ Some c.leaf_crit_key.result) c.leaf_crit_key.ensures.key
