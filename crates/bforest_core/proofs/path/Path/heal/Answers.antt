use Rattle.bforest_core.proofs.{Words.{rules, arith, tree_of}, removal.Removal.outcome}
use Rattle.bforest_core.proofs.removal.Healing.{counted_asks, kept, leaf_used, others, read_is, root_was, settled, single, stood_in, unbalanced}
use Rattle.bforest_core.proofs.path.Path.heal.Goals as goal

pub entries-left-requires : goal.entries-left-requires
entries-left-requires g c = (search rules, counted_asks c.requires.taken.2 _ (read_is c.requires.taken.2 _ (omega arith)))

pub remove_leaf-requires : goal.remove_leaf-requires
remove_leaf-requires g c = let w = c.requires.taken in
    let alone = single w.2 _ (read_is w.2 _ (omega arith)) _ c.entries-left.ensures.value c.if-left-eq0.true in
    (search rules, (search rules, (w.2.union.1.capacity, (leaf_used w.2, (w.0, tree_of w.0.nodes c.args.root, w.1, stood_in w.2, root_was w.2, alone)))))

pub returns-then-left-eq0 : goal.returns-then-left-eq0
returns-then-left-eq0 g c = record {
  healed = λ old place e. let s = stood_in e in let tree = tree_of old.nodes c.args.root in
      let alone = single e _ (read_is e _ (omega arith)) _ c.entries-left.ensures.value c.if-left-eq0.true in
      (outcome _ _ _ _ e.union e.stood _ (c.remove_leaf.ensures.removed old tree place s alone) (λ none. c.remove_leaf.ensures.emptied none old tree place s alone)).shrinks;
}

pub renew_first-requires : goal.renew_first-requires
renew_first-requires g c = let w = c.requires.taken in
    let more = others w.2 _ (read_is w.2 _ (omega arith)) _ c.entries-left.ensures.value c.if-left-eq0.false in
    (search rules, (search rules, (w.0, tree_of w.0.nodes c.args.root, w.1, stood_in w.2, more)))

pub returns-then-left : goal.returns-then-left
returns-then-left g c = record {
  healed = λ old place e. kept e _ (read_is e _ (omega arith)) _ c.entries-left.ensures.value c.if-left-eq0.false _ c.renew_first.ensures c.if-left.true;
}

pub rebalance_leaf-requires : goal.rebalance_leaf-requires
rebalance_leaf-requires g c = let w = c.requires.taken in
    search (rules, w.2.union.1.capacity, unbalanced w.2 _ (read_is w.2 _ (omega arith)) _ c.entries-left.ensures.value c.if-left-eq0.false _ c.renew_first.ensures c.if-left.false)

pub returns : goal.returns
returns g c = record {
  healed = λ old place e.
      settled e (c.rebalance_leaf.ensures (unbalanced e _ (read_is e _ (omega arith)) _ c.entries-left.ensures.value c.if-left-eq0.false _ c.renew_first.ensures c.if-left.false));
}
