use Rattle.bforest_core.proofs.{Words.{rules, arith}, removal.RemovingMerged.{here, remove_asks, merge_same, index_some, last_key_asks, above_asks}}
use Rattle.bforest_core.proofs.removal.RemovingMerged.{remove_last_asks, merge_next}
use Rattle.bforest_core.proofs.path.Path.remove_merged.Goals as goal

pub entries-requires : goal.entries-requires
entries-requires g c = (search rules, (here c.requires.pending _ (omega arith) c.requires.height).node_asks)

pub separator-key-requires : goal.separator-key-requires
separator-key-requires g c = (search rules, (here c.requires.pending _ (omega arith) c.requires.height).key_asks _ _ c.entries.ensures.value (omega arith))

pub set_separator-requires : goal.set_separator-requires
set_separator-requires g c = let s = here c.requires.pending _ (omega arith) c.requires.height in
    (search rules, (s.used, s.key_asks _ _ c.entries.ensures.value c.if-index-entries.true))

pub remove_child-answer-requires : goal.remove_child-answer-requires
remove_child-answer-requires g c = let w = c.requires.pending in
    (search rules, remove_asks (here w _ (omega arith) c.requires.height) _ c.entries.ensures.value c.if-index-entries.true _ _ c.set_separator.ensures)

pub overflow_sub-index : goal.overflow_sub-index
overflow_sub-index g c = index_some (here c.requires.pending _ (omega arith) c.requires.height) _ c.entries.ensures.value c.if-index-entries.false

pub separator-key-requires-else-index-entries : goal.separator-key-requires-else-index-entries
separator-key-requires-else-index-entries g c =
    (search rules, last_key_asks (here c.requires.pending _ (omega arith) c.requires.height) _ c.entries.ensures.value c.if-index-entries.false)

pub update_next_separator-requires : goal.update_next_separator-requires
update_next_separator-requires g c = let w = c.requires.pending in
    search (rules, above_asks (here w _ (omega arith) c.requires.height) _ c.entries.ensures.value c.if-index-entries.false)

pub remove_child-answer-requires-else-index-entries : goal.remove_child-answer-requires-else-index-entries
remove_child-answer-requires-else-index-entries g c = let w = c.requires.pending in
    (search rules, remove_last_asks (here w _ (omega arith) c.requires.height) _ c.entries.ensures.value c.if-index-entries.false _ _ c.update_next_separator.ensures)

pub returns-then-index-entries : goal.returns-then-index-entries
returns-then-index-entries g c = λ w. merge_same (here w _ (omega arith) c.requires.height) _ c.entries.ensures.value
    c.if-index-entries.true _ _ c.set_separator.ensures _ c.saturating_sub.result
    c.saturating_sub.ensures c.separator-key.ensures c.remove_child-answer.ensures.node

pub returns-else-index-entries : goal.returns-else-index-entries
returns-else-index-entries g c = λ w. merge_next (here w _ (omega arith) c.requires.height) _ c.entries.ensures.value
    c.if-index-entries.false _ c.separator-key-else-index-entries.result
    c.update_next_separator.ensures _ c.separator-key-else-index-entries.ensures
    c.remove_child-answer-else-index-entries.ensures.node
