use Rattle.bforest_core.proofs.{Words.{rules, ◌≡◌, Some, slice_get, ◌<◌, slice_get_within, Inner, IsInner, children_of, entry_count}, table.Stored.read_as}
use Rattle.bforest_core.proofs.access.child.Goals as goal

pub node-requires : goal.node-requires
node-requires g c = (search rules, (search rules, slice_get_within _ _ (Inner c.requires.0 c.requires.1) c.requires.2))

pub child-requires : goal.child-requires
child-requires g c = let w = c.requires in (search rules, read_as w.2 c.node.ensures.value (λ z. IsInner z × (c.args.index < entry_count z)) (tt, w.3))

pub returns : goal.returns
returns g c = λ keys children slot.
    read_as c.node.ensures.value slot (λ z. slice_get (children_of z) c.args.index ≡ Some c.child.result) c.child.ensures.child
