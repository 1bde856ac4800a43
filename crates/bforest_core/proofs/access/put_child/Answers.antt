use Rattle.bforest_core.proofs.Words.{rules, length, if◌then◌else◌, IsTrue, ap, ◌↔◌, ◌<◌, ◌≤◌, ◌∙◌, IsInner, entry_count, with_child, with_node}
use Rattle.bforest_core.proofs.table.Stored.{read_as, read_same}
use Rattle.bforest_nodes.specs.Content.{keys_of}
use Rattle.bforest_core.proofs.access.put_child.Goals as goal

pub node_mut-requires : goal.node_mut-requires
node_mut-requires g c = (search rules, (search rules, c.requires.used))

pub try_inner_insert-requires : goal.try_inner_insert-requires
try_inner_insert-requires g c = let w = c.requires.inner in
    (search rules, read_as w.2 c.node_mut.ensures.value (λ z. IsInner z × (c.args.index ≤ length (keys_of z))) (tt, w.3))

pub returns : goal.returns
returns g c = record {
  room = λ keys children slot. read_as c.node_mut.ensures.value slot (λ z. IsTrue c.try_inner_insert.result ↔ (entry_count z < 8)) c.try_inner_insert.ensures.room;
  node = λ keys children slot. ap (with_node c.args.pool.now c.args.node) (c.try_inner_insert.ensures.node ∙ ap (λ z. if c.try_inner_insert.result then with_child z c.args.index c.args.key c.args.child else z) (read_same c.args.pool.now.nodes c.args.node slot c.node_mut.ensures.value));
}
