use Rattle.bforest_core.proofs.{Words.{rules, arith, sym, ◌∙◌}, removal.{Removal.{removes_next, stands_in}, Dropping.{collapse_asks, copy_asks, dropped, free_asks, merge_asks}}}
use Rattle.bforest_core.proofs.rows.Tops.{root-stands}
use Rattle.bforest_core.proofs.path.Path.remove_next_leaf.Goals as goal

pub root-root-requires : goal.root-root-requires
root-root-requires g c = let s = stands_in _ _ c.requires.union c.requires.next.0.on in (search rules, (omega arith, omega arith))

pub copy_over-requires : goal.copy_over-requires
copy_over-requires g c = let w = c.requires.next in
    (search rules, copy_asks (stands_in _ _ c.requires.union w.0.on) w.3 c.requires.union.1.capacity _ (omega arith))

pub free_node-requires : goal.free_node-requires
free_node-requires g c = let w = c.requires.next in
    (search rules, free_asks (stands_in _ _ c.requires.union w.0.on) w.3 c.requires.union.1.capacity _ (omega arith) c.copy_over.ensures)

pub merge_above-requires : goal.merge_above-requires
merge_above-requires g c = let w = c.requires.next in let s = stands_in _ _ c.requires.union w.0.on in
    (search rules, (search rules, (omega (arith, s.low, s.stands.size_is), merge_asks s w.3 c.requires.union.1.capacity _ (omega arith) c.copy_over.ensures c.free_node.ensures.freed)))

pub collapse_root-requires : goal.collapse_root-requires
collapse_root-requires g c = let w = c.requires.next in let s = stands_in _ _ c.requires.union w.0.on in
    (search rules, (search rules, (omega (arith, s.low, s.stands.size_is, c.merge_above.ensures.size), collapse_asks s w.3 c.requires.union.1.capacity _ (omega arith) c.copy_over.ensures c.free_node.ensures.freed c.merge_above.ensures.merged (root-stands s.fit s.stands ∙ sym c.root-root.ensures) c.merge_above.ensures.size)))

pub returns : goal.returns
returns g c = λ at gone rest is. let s = stands_in _ _ c.requires.union at.on in
    let d = dropped s is c.requires.union.1.capacity _ (omega arith) c.copy_over.ensures c.free_node.ensures.freed c.merge_above.ensures.merged (root-stands s.fit s.stands ∙ sym c.root-root.ensures) c.merge_above.ensures.size
    c.collapse_root.ensures.trimmed c.collapse_root.ensures.nodes c.collapse_root.ensures.entries in
    removes_next c.requires.union at d.0 d.1
