use Rattle.bforest_core.proofs.Words.{rules}
use Rattle.bforest_core.proofs.union.FilledChild.{balance-asks, entries-asks, filled-merging, filled-sharing, first-asks, free-asks, key-asks, rekey-asks, remove-asks}
use Rattle.bforest_core.proofs.union.FilledChild.{second-asks, stays-few, stays-half}
use Rattle.bforest_core.proofs.path.detach.fill_child.Goals as goal

pub returns-then-entries-lt2 : goal.returns-then-entries-lt2
returns-then-entries-lt2 g c = λ leaf row h half. stays-few c.requires.capacity leaf h c.entries.ensures.value c.if-entries-lt2.true

pub child-first-requires : goal.child-first-requires
child-first-requires g c = let w = c.requires.children in (search rules, first-asks c.requires.capacity w.0 w.2 c.entries.ensures.value c.if-entries-lt2.false)

pub entries-requires-2 : goal.entries-requires-2
entries-requires-2 g c = let w = c.requires.children in
    (search rules, entries-asks c.requires.capacity w.0 w.2 c.entries.ensures.value c.if-entries-lt2.false c.child-first.ensures)

pub returns-then-entries-half : goal.returns-then-entries-half
returns-then-entries-half g c = λ leaf row h half.
    stays-half c.requires.capacity leaf h c.entries.ensures.value c.if-entries-lt2.false c.child-first.ensures c.entries-2.ensures.value half c.if-entries-half.true

pub child-second-requires : goal.child-second-requires
child-second-requires g c = let w = c.requires.children in (search rules, second-asks c.requires.capacity w.0 w.2 c.entries.ensures.value c.if-entries-lt2.false)

pub separator-key-requires : goal.separator-key-requires
separator-key-requires g c = let w = c.requires.children in (search rules, key-asks c.requires.capacity w.0 w.2 c.entries.ensures.value c.if-entries-lt2.false)

pub balance_nodes-requires : goal.balance_nodes-requires
balance_nodes-requires g c = let w = c.requires.children in (
  search rules,
  balance-asks c.requires.capacity w.0 w.2 c.entries.ensures.value c.if-entries-lt2.false c.child-first.ensures c.entries-2.ensures.value w.3
      c.if-entries-half.false c.child-second.ensures c.separator-key.ensures,
)

pub set_separator-requires : goal.set_separator-requires
set_separator-requires g c = let w = c.requires.children in (
  search rules,
  rekey-asks c.requires.capacity w.0 w.2 c.entries.ensures.value c.if-entries-lt2.false c.child-first.ensures c.entries-2.ensures.value w.3
      c.if-entries-half.false c.child-second.ensures c.separator-key.ensures (rw c.in-Some.is at c.balance_nodes.ensures.balanced),
)

pub remove_child-answer-requires : goal.remove_child-answer-requires
remove_child-answer-requires g c = let w = c.requires.children in (
  search rules,
  remove-asks c.requires.capacity w.0 w.2 c.entries.ensures.value c.if-entries-lt2.false c.child-first.ensures c.entries-2.ensures.value w.3
      c.if-entries-half.false c.child-second.ensures c.separator-key.ensures (rw c.in-None.is at c.balance_nodes.ensures.balanced),
)

pub free_node-requires : goal.free_node-requires
free_node-requires g c = let w = c.requires.children in (
  search rules,
  free-asks c.requires.capacity w.0 w.2 c.entries.ensures.value c.if-entries-lt2.false c.child-first.ensures c.entries-2.ensures.value w.3
      c.if-entries-half.false c.child-second.ensures c.separator-key.ensures (rw c.in-None.is at c.balance_nodes.ensures.balanced) c.remove_child-answer.ensures.node,
)

pub returns-in-Some : goal.returns-in-Some
returns-in-Some g c = λ leaf row h half.
    filled-sharing c.requires.capacity leaf h c.entries.ensures.value c.if-entries-lt2.false c.child-first.ensures c.entries-2.ensures.value half
    c.if-entries-half.false c.child-second.ensures c.separator-key.ensures (rw c.in-Some.is at c.balance_nodes.ensures.balanced) c.set_separator.ensures

pub returns-in-None : goal.returns-in-None
returns-in-None g c = λ leaf row h half.
    filled-merging c.requires.capacity leaf h c.entries.ensures.value c.if-entries-lt2.false c.child-first.ensures c.entries-2.ensures.value half
    c.if-entries-half.false c.child-second.ensures c.separator-key.ensures (rw c.in-None.is at c.balance_nodes.ensures.balanced)
    c.remove_child-answer.ensures.node c.free_node.ensures.freed
