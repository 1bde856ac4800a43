use Rattle.bforest_core.proofs.Words.{take_answer, with_taken, rules, ap, ◌≡◌, ◌∙◌, IsLeaf, IsStrictlySortedBy, search_of, with_node}
use Rattle.bforest_core.proofs.table.Stored.{read_as, read_same}
use Rattle.bforest_nodes.specs.Content.{keys_of}
use Rattle.bforest_core.proofs.access.take.Goals as goal

pub node_mut-requires : goal.node_mut-requires
node_mut-requires g c = (search rules, (search rules, c.requires.used))

pub take-requires : goal.take-requires
take-requires g c = let w = c.requires.leaf in
    (search rules, read_as w.1 c.node_mut.ensures.value (λ z. IsLeaf z × IsStrictlySortedBy (g.C.Comparator.order c.args.comp.now) (keys_of z)) (tt, w.2))

pub returns : goal.returns
returns g c = record {
  answer = λ es slot.
      read_as c.node_mut.ensures.value slot (λ z. c.take.result ≡ take_answer z (search_of (g.C.Comparator.order c.args.comp.now) (keys_of z) c.args.key)) c.take.ensures.answer;
  node = λ es slot.
      ap (with_node c.args.pool.now c.args.node) (c.take.ensures.node ∙ ap (λ z. with_taken z (search_of (g.C.Comparator.order c.args.comp.now) (keys_of z) c.args.key)) (read_same c.args.pool.now.nodes c.args.node slot c.node_mut.ensures.value));
  most = search rules;
}
