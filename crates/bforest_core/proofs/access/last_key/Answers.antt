use Rattle.bforest_core.proofs.{Words.{rules, ap, sym, ◌≡◌, ◌<◌, ◌∙◌, arith, Some, slice_get, slice_get_within, Leaf, IsLeaf, entry_count}, table.Stored.read_as}
use Rattle.bforest_nodes.specs.Content.{keys_of}
use Rattle.bforest_core.proofs.access.last_key.Goals as goal

pub last_index-index-requires : goal.last_index-index-requires
last_index-index-requires g c = let w = c.requires in (search rules, (Leaf w.0 w.1, w.2, w.3))

pub node-requires : goal.node-requires
node-requires g c = (search rules, (search rules, slice_get_within _ _ (Leaf c.requires.0 c.requires.1) c.requires.2))

pub entry-requires : goal.entry-requires
entry-requires g c = let w = c.requires in
    let last = c.last_index-index.ensures.last (Leaf w.0 w.1) w.2 in
    (search rules, read_as w.2 c.node.ensures.value (λ z. IsLeaf z × (c.last_index-index.result < entry_count z)) (tt, omega (arith, last, w.3)))

pub returns : goal.returns
returns g c = record {
  index = λ keys vals slot. c.last_index-index.ensures.last (Leaf keys vals) slot;
  key = λ keys vals slot. ap (slice_get keys) (sym (c.last_index-index.ensures.last (Leaf keys vals) slot)) ∙ read_as c.node.ensures.value slot (λ z. slice_get (keys_of z) c.last_index-index.result ≡ Some c.entry.result.0) c.entry.ensures.key;
}
