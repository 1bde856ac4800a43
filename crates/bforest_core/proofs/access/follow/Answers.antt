use Rattle.bforest_core.proofs.Words.{rules, ◌≡◌, slice_get_within, IsStrictlySortedBy, Some, slice_get, Inner, IsInner, children_of, count_up_to}
use Rattle.bforest_core.proofs.table.Stored.{read_as}
use Rattle.bforest_nodes.specs.Content.{keys_of}
use Rattle.bforest_core.proofs.access.follow.Goals as goal

pub node-requires : goal.node-requires
node-requires g c = (search rules, (search rules, slice_get_within _ _ (Inner c.requires.inner.0 c.requires.inner.1) c.requires.inner.2))

pub follow-requires : goal.follow-requires
follow-requires g c = let w = c.requires.inner in
    (search rules, read_as w.2 c.node.ensures.value (λ z. IsInner z × IsStrictlySortedBy (g.C.Comparator.order c.args.comp.now) (keys_of z)) (tt, w.3))

pub returns : goal.returns
returns g c = record {
  index = λ keys children slot.
      read_as c.node.ensures.value slot (λ z. c.follow.result.0 ≡ count_up_to (g.C.Comparator.order c.args.comp.now) (keys_of z) c.args.key) c.follow.ensures.index;
  child = λ keys children slot.
      read_as c.node.ensures.value slot (λ z. slice_get (children_of z) c.follow.result.0 ≡ Some c.follow.result.1) c.follow.ensures.child;
  most = search rules;
}
