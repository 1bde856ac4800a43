use Rattle.bforest_core.proofs.{Words.{rules}, removal.Beside.{balance-asks, child-asks, collapse-asks, filled, free-asks, joined, low-key-asks, rekey-asks, remove-child-asks, separator-asks, set-asks}}
use Rattle.bforest_core.proofs.pool.NodePool.balance_on.Goals as goal

pub separator-key-requires : goal.separator-key-requires
separator-key-requires g c = (search rules, separator-asks c.requires.short c.digit-digit.ensures.digit)

pub child-right-requires : goal.child-right-requires
child-right-requires g c = (search rules, child-asks c.requires.short c.digit-digit.ensures.digit)

pub balance_nodes-requires : goal.balance_nodes-requires
balance_nodes-requires g c = (search rules, balance-asks c.requires.short c.digit-digit.ensures.digit c.separator-key.ensures c.child-right.ensures)

pub set_separator-requires : goal.set_separator-requires
set_separator-requires g c = (search rules, rekey-asks c.requires.short c.digit-digit.ensures.digit c.separator-key.ensures c.child-right.ensures c.balance_nodes.ensures.balanced c.in-Some.is)

pub free_node-requires : goal.free_node-requires
free_node-requires g c = (search rules, free-asks c.requires.short c.digit-digit.ensures.digit c.separator-key.ensures c.child-right.ensures c.balance_nodes.ensures.balanced c.in-None.is)

pub separator-low-requires : goal.separator-low-requires
separator-low-requires g c = (search rules, low-key-asks c.requires.short c.digit-digit.ensures.digit c.separator-key.ensures c.child-right.ensures c.balance_nodes.ensures.balanced c.in-None.is c.free_node.ensures.freed c.saturating_sub.ensures)

pub set_separator-requires-in-None : goal.set_separator-requires-in-None
set_separator-requires-in-None g c = (search rules, set-asks c.requires.short c.digit-digit.ensures.digit c.separator-key.ensures c.child-right.ensures c.balance_nodes.ensures.balanced c.in-None.is c.free_node.ensures.freed)

pub remove_child-answer-requires : goal.remove_child-answer-requires
remove_child-answer-requires g c = let set = c.set_separator-in-None.ensures in
    (search rules, remove-child-asks c.requires.short c.digit-digit.ensures.digit c.separator-key.ensures c.child-right.ensures c.balance_nodes.ensures.balanced c.in-None.is c.free_node.ensures.freed c.saturating_sub.ensures c.separator-low.ensures set)

pub returns-in-Some : goal.returns-in-Some
returns-in-Some g c = λ s. filled s c.digit-digit.ensures.digit c.separator-key.ensures c.child-right.ensures c.balance_nodes.ensures.balanced c.in-Some.is c.set_separator.ensures

pub collapse_on-requires : goal.collapse_on-requires
collapse_on-requires g c = let rooted = collapse-asks c.requires.short c.digit-digit.ensures.digit c.separator-key.ensures c.child-right.ensures c.balance_nodes.ensures.balanced c.in-None.is c.free_node.ensures.freed
    c.saturating_sub.ensures c.separator-low.ensures c.set_separator-in-None.ensures c.remove_child-answer.ensures.node in
    (search rules, (c.requires.short.follows.low, rooted))

pub returns-in-None : goal.returns-in-None
returns-in-None g c = λ s. joined s c.digit-digit.ensures.digit c.separator-key.ensures c.child-right.ensures c.balance_nodes.ensures.balanced c.in-None.is c.free_node.ensures.freed
    c.saturating_sub.ensures c.separator-low.ensures c.set_separator-in-None.ensures c.remove_child-answer.ensures.node c.collapse_on.ensures
