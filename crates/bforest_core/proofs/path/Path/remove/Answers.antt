use Rattle.bforest_core.proofs.{Words.{rules, sym, ◌∙◌, arith, tree_of}, removal.Removal.{stands_in, removal, outcome}}
use Rattle.bforest_core.proofs.{removal.{Removal.removes, Taking.{counted_asks, leaf_used, single, others}}, rows.Tops.root-stands}
use Rattle.bforest_core.proofs.path.Path.remove.Goals as goal

pub root-root-requires : goal.root-root-requires
root-root-requires g c = let s = stands_in _ _ c.requires.union c.requires.stands.on in (search rules, (omega arith, omega arith))

pub entries-requires : goal.entries-requires
entries-requires g c = let w = c.requires.stands in
    (search rules, counted_asks (stands_in _ _ c.requires.union w.on) _ (omega arith))

pub remove_leaf-requires : goal.remove_leaf-requires
remove_leaf-requires g c = let w = c.requires.stands in let s = stands_in _ _ c.requires.union w.on in let tree = tree_of c.args.pool.now.nodes w.root in
    let alone = single s c.index-self-0.result (omega arith) c.entries.result c.entries.ensures.value c.if-entries-eq1.true in
    (search rules, (search rules, (c.requires.union.1.capacity, (leaf_used s, (c.args.pool.now, tree, w.place, s, root-stands s.fit s.stands ∙ sym c.root-root.ensures, alone)))))

pub remove_entry-requires : goal.remove_entry-requires
remove_entry-requires g c = let w = c.requires.stands in let s = stands_in _ _ c.requires.union w.on in let tree = tree_of c.args.pool.now.nodes w.root in
    let more = others s _ (omega arith) c.entries.result c.entries.ensures.value c.if-entries-eq1.false in
    (search rules, (search rules, (c.requires.union.1.capacity, ((tree, w.place, s, root-stands s.fit s.stands ∙ sym c.root-root.ensures), more))))

pub returns-then-entries-eq1 : goal.returns-then-entries-eq1
returns-then-entries-eq1 g c = removes (λ at. let s = stands_in _ _ c.requires.union at.on in let tree = tree_of c.args.pool.now.nodes at.root in
    let alone = single s _ (omega arith) c.entries.result c.entries.ensures.value c.if-entries-eq1.true in
    outcome _ _ _ _ c.requires.union at.on c.remove_leaf.result (c.remove_leaf.ensures.removed c.args.pool.now tree at.place s alone)
    (λ none. c.remove_leaf.ensures.emptied none c.args.pool.now tree at.place s alone)) (λ none. c.remove_leaf.ensures.end)

pub returns-else-entries-eq1 : goal.returns-else-entries-eq1
returns-else-entries-eq1 g c = removes (λ at. removal _ _ _ _ c.requires.union at.on (c.remove_entry.ensures _ _ (stands_in _ _ c.requires.union at.on)))
    (λ none. absurd cc)
