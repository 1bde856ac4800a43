use Rattle.bforest_core.proofs.{Words.{rules, ◌≡◌, length, Some, slice_get, ◌<◌, slice_get_within, Inner, IsInner}, table.Stored.read_as}
use Rattle.bforest_nodes.specs.Content.{keys_of}
use Rattle.bforest_core.proofs.access.separator.Goals as goal

pub node-requires : goal.node-requires
node-requires g c = (search rules, (search rules, slice_get_within _ _ (Inner c.requires.0 c.requires.1) c.requires.2))

pub separator-requires : goal.separator-requires
separator-requires g c = let w = c.requires in
    (search rules, read_as w.2 c.node.ensures.value (λ z. IsInner z × (c.args.index < length (keys_of z))) (tt, w.3))

pub returns : goal.returns
returns g c = λ keys children slot.
    read_as c.node.ensures.value slot (λ z. slice_get (keys_of z) c.args.index ≡ Some c.separator.result) c.separator.ensures.key
