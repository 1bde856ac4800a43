use Rattle.bforest_core.proofs.Words.{rules, suc, sym, arith, slice_get_past, flat}
use Rattle.bforest_core.proofs.walks.Entered.{entry_read, leaf_here, next_last, next_over, next_read, next_within, over_leaves}
use Rattle.bforest_core.proofs.path.Path.next_entry.Goals as goal

pub overflow_add-next : goal.overflow_add-next
overflow_add-next g c = omega (arith, (leaf_here c.requires.capacity c.requires.stands).room)

pub leaf_entry-requires : goal.leaf_entry-requires
leaf_entry-requires g c = (search rules, (search rules, (c.requires.stands.leaf.entries, (leaf_here c.requires.capacity c.requires.stands).slot_is)))

pub returns-in-Some-clause-value : goal.returns-in-Some-clause-value
returns-in-Some-clause-value g c = λ s. next_read c.requires.capacity s c.in-Some.ensures.value

pub returns-in-Some-clause-moved : goal.returns-in-Some-clause-moved
returns-in-Some-clause-moved g c = λ s. next_within c.requires.capacity s c.in-Some.ensures.value _ c.set_entry.ensures.nodes c.set_entry.ensures.here c.set_entry.ensures.above

pub next_node-requires : goal.next_node-requires
next_node-requires g c = (search rules, (search rules, (c.requires.height, over_leaves c.requires.capacity c.requires.stands)))

pub returns-then-not-next_node : goal.returns-then-not-next_node
returns-then-not-next_node g c = record {
  value = λ s. sym (slice_get_past (flat s.tree.leaves) (suc s.place) (omega (arith, next_last c.requires.capacity s c.in_default.ensures.value (c.next_node.ensures.last c.if-not-next_node.true))));
  moved = search rules;
  last = λ none s. next_last c.requires.capacity s c.in_default.ensures.value (c.next_node.ensures.last c.if-not-next_node.true);
  same = λ none. c.next_node.ensures.same c.if-not-next_node.true;
  size = search rules;
}

pub entry_here-requires : goal.entry_here-requires
entry_here-requires g c = let w = c.requires.stands in
    let s = next_over c.requires.capacity w c.in_default.ensures.value _ (c.next_node.ensures.moved (search rules)) c.set_entry-2.ensures.nodes c.set_entry-2.ensures.here c.set_entry-2.ensures.above in
    let at = leaf_here c.requires.capacity (record { tree = w.tree; place = suc w.place; fit = w.fit; inside = w.inside; stands = s }) in
    (search rules, (search rules, (s.leaf.entries, at.slot_is, s.leaf.within)))

pub returns-clause-value : goal.returns-clause-value
returns-clause-value g c = λ s.
    let next = next_over c.requires.capacity s c.in_default.ensures.value _ (c.next_node.ensures.moved (search rules)) c.set_entry-2.ensures.nodes c.set_entry-2.ensures.here c.set_entry-2.ensures.above in
    sym (entry_read c.requires.capacity (record { tree = s.tree; place = suc s.place; fit = s.fit; inside = s.inside; stands = next }) c.entry_here.ensures)

pub returns-clause-moved : goal.returns-clause-moved
returns-clause-moved g c = λ s. next_over c.requires.capacity s c.in_default.ensures.value c.set_entry-2.new.self.entry
    (c.next_node.ensures.moved (search rules)) c.set_entry-2.ensures.nodes c.set_entry-2.ensures.here c.set_entry-2.ensures.above
