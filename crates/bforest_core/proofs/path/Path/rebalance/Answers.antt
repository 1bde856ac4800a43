use Rattle.bforest_core.proofs.{Words.{rules, arith}, removal.Rebalancing.{counted_asks, past_asks, past_heals, stay_heals, beside_asks, last_heals}}
use Rattle.bforest_core.proofs.removal.Rebalancing.{balance_asks, rekey_asks, rekey_heals, free_asks, free_joins}
use Rattle.bforest_core.proofs.path.Path.rebalance.Goals as goal

pub entries-left-requires : goal.entries-left-requires
entries-left-requires g c = (search rules, counted_asks c.requires.lost _ (omega arith) c.requires.height)

pub enter_next-requires : goal.enter_next-requires
enter_next-requires g c =
    search (rules, past_asks c.requires.lost _ (omega arith) c.requires.height _ c.entries-left.ensures.value c.if-left-least.true c.if-self-level.true)

pub returns-then-self-level-clause-healed : goal.returns-then-self-level-clause-healed
returns-then-self-level-clause-healed g c = λ same w.
    past_heals w _ (omega arith) c.requires.height _ c.entries-left.ensures.value c.if-left-least.true c.if-self-level.true _ _ c.enter_next.ensures.moved
    c.enter_next.ensures.first c.enter_next.ensures.keeps

pub returns-else-self-level-clause-healed : goal.returns-else-self-level-clause-healed
returns-else-self-level-clause-healed g c = λ same w. stay_heals w _ (omega arith) c.requires.height _ c.entries-left.ensures.value c.if-left-least.true c.if-self-level.false

pub right_sibling-requires : goal.right_sibling-requires
right_sibling-requires g c = search (rules, beside_asks c.requires.lost c.index-self-level.result (omega arith) c.requires.height)

pub balance_nodes-requires : goal.balance_nodes-requires
balance_nodes-requires g c = (search rules, balance_asks c.requires.lost _ (omega arith) c.requires.height _ c.entries-left.ensures.value c.if-left-least.false c.in-Some.is c.right_sibling.ensures)

pub update_next_separator-requires : goal.update_next_separator-requires
update_next_separator-requires g c =
    search (rules, rekey_asks c.requires.lost _ (omega arith) c.requires.height _ c.entries-left.ensures.value c.if-left-least.false c.in-Some.is c.right_sibling.ensures c.balance_nodes.ensures.balanced c.in-Some-balance_nodes.is)

pub free_node-requires : goal.free_node-requires
free_node-requires g c =
    (search rules, free_asks c.requires.lost _ (omega arith) c.requires.height _ c.entries-left.ensures.value c.if-left-least.false c.in-Some.is c.right_sibling.ensures c.balance_nodes.ensures.balanced c.in-None-balance_nodes.is)

pub returns-in-None-clause-healed : goal.returns-in-None-clause-healed
returns-in-None-clause-healed g c = λ same w. last_heals w c.index-self-level.result (omega arith) c.requires.height c.in-None.ensures

pub returns-in-Some-balance_nodes-clause-healed : goal.returns-in-Some-balance_nodes-clause-healed
returns-in-Some-balance_nodes-clause-healed g c = λ same w. rekey_heals w _ (omega arith) c.requires.height _ c.entries-left.ensures.value c.if-left-least.false
    c.in-Some.is c.right_sibling.ensures c.balance_nodes.ensures.balanced c.in-Some-balance_nodes.is _ c.update_next_separator.ensures

pub returns-in-None-balance_nodes-clause-joined : goal.returns-in-None-balance_nodes-clause-joined
returns-in-None-balance_nodes-clause-joined g c = λ same w. free_joins w _ (omega arith) c.requires.height _ c.entries-left.ensures.value c.if-left-least.false
    c.in-Some.is c.right_sibling.ensures c.balance_nodes.ensures.balanced c.in-None-balance_nodes.is _ c.free_node.ensures.freed
