use Rattle.bforest_core.proofs.{Words.{rules, arith}, removal.LeafEmptied.{free_asks, leaf_emptied, leaf_asks, collapse_asks, drop_removed}}
use Rattle.bforest_core.proofs.removal.Removing.{stands_root}
use Rattle.bforest_core.proofs.path.Path.remove_leaf.Goals as goal

pub free_node-requires : goal.free_node-requires
free_node-requires g c = let w = c.requires.single in
    (search rules, free_asks c.requires.capacity w.5 w.3 _ (omega arith) c.requires.used)

pub returns-then-self-eq1-clause-emptied : goal.returns-then-self-eq1-clause-emptied
returns-then-self-eq1-clause-emptied g c = λ none old tree place s alone.
    leaf_emptied c.requires.capacity alone s _ (omega arith) _ c.free_node.ensures.freed c.if-self-eq1.true

pub remove_emptied-requires : goal.remove_emptied-requires
remove_emptied-requires g c = let w = c.requires.single in
    search (rules, leaf_asks c.requires.capacity w.5 w.3 _ (omega arith) _ c.free_node.ensures.freed c.if-self-eq1.false)

pub collapse_root-top-requires : goal.collapse_root-top-requires
collapse_root-top-requires g c = let w = c.requires.single in
    let asked = collapse_asks c.requires.capacity w.5 w.3 _ (omega arith) _ c.free_node.ensures.freed c.if-self-eq1.false
    _ c.remove_emptied.ensures c.args.root w.4 in
    search (rules, asked)

pub returns-clause-removed : goal.returns-clause-removed
returns-clause-removed g c = λ old tree place s alone. let w = c.requires.single in
    drop_removed c.requires.capacity alone s _ (omega arith) c.free_node.new.self c.free_node.ensures.freed
    c.if-self-eq1.false c.remove_emptied.new.pool c.remove_emptied.ensures c.args.root
    (stands_root c.args.root s w.3 w.4)
    c.collapse_root-top.new.pool c.collapse_root-top.new.self.node c.collapse_root-top.new.self.entry c.collapse_root-top.new.self.size c.collapse_root-top.result c.collapse_root-top.ensures.trimmed

pub returns-then-self-eq1-clause-removed : goal.returns-then-self-eq1-clause-removed
returns-then-self-eq1-clause-removed g c = λ old tree place s alone. tt
