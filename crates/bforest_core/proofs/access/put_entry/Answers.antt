use Rattle.bforest_core.proofs.Words.{rules, if◌then◌else◌, IsTrue, ap, ◌↔◌, ◌<◌, ◌≤◌, ◌∙◌, IsLeaf, entry_count, with_entry, with_node}
use Rattle.bforest_core.proofs.table.Stored.{read_as, read_same}
use Rattle.bforest_core.proofs.access.put_entry.Goals as goal

pub node_mut-requires : goal.node_mut-requires
node_mut-requires g c = (search rules, (search rules, c.requires.used))

pub try_leaf_insert-requires : goal.try_leaf_insert-requires
try_leaf_insert-requires g c = let w = c.requires.leaf in
    (search rules, read_as w.2 c.node_mut.ensures.value (λ z. IsLeaf z × (c.args.index ≤ entry_count z)) (tt, w.3))

pub returns : goal.returns
returns g c = record {
  room = λ keys vals slot. read_as c.node_mut.ensures.value slot (λ z. IsTrue c.try_leaf_insert.result ↔ (entry_count z < g.row.N)) c.try_leaf_insert.ensures.room;
  node = λ keys vals slot. ap (with_node c.args.pool.now c.args.node) (c.try_leaf_insert.ensures.node ∙ ap (λ z. if c.try_leaf_insert.result then with_entry z c.args.index c.args.key c.args.value else z) (read_same c.args.pool.now.nodes c.args.node slot c.node_mut.ensures.value));
}
