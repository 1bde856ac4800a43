use Rattle.bforest_core.proofs.{Words.{rules, arith}, removal.{RemovingEmptied.{here, keeps, last_asks, empties}, Asked.{fewer, last_low}}}
use Rattle.bforest_core.proofs.path.Path.+remove_emptied.Goals as goal

pub entries-requires : goal.entries-requires
entries-requires g t c = (search rules, (here c.requires.pending _ (omega arith) c.requires.height).node_asks)

pub free_node-requires : goal.free_node-requires
free_node-requires g t c = (search rules, (here c.requires.pending _ (omega arith) c.requires.height).used)

pub remove_emptied-requires : goal.remove_emptied-requires
remove_emptied-requires g t c κs within = let w = c.requires.pending in
    let asked = last_asks w (here w _ (omega arith) c.requires.height) _ c.entries.ensures.value c.if-entries-eq1.true
    _ c.free_node.ensures.freed in
    search (rules, fewer (last_low w) t c.decreases, within.0, within.1, asked)

pub remove_child-answer-requires : goal.remove_child-answer-requires
remove_child-answer-requires g t c =
    let s = here c.requires.pending _ (omega arith) c.requires.height in (search rules, (s.used, s.child_asks))

pub returns-then-entries-eq1 : goal.returns-then-entries-eq1
returns-then-entries-eq1 g t c = λ w.
    empties w (here w _ (omega arith) c.requires.height) _ c.entries.ensures.value c.if-entries-eq1.true _ c.free_node.ensures.freed _ c.remove_emptied.ensures

pub returns-else-entries-eq1 : goal.returns-else-entries-eq1
returns-else-entries-eq1 g t c = λ w.
    keeps w (here w _ (omega arith) c.requires.height) _ c.entries.ensures.value _ c.if-entries-eq1.false c.remove_child-answer.ensures.node
