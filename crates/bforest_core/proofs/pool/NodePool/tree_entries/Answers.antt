use Rattle.bforest_core.proofs.Words.{rules, ◌≡◌, ℕ, ◌<◌, arith, ap, sym, subst, ◌∙◌, length, length-map, tree_of, slice_get_within, entry_count, IsFree}
use Rattle.bforest_core.proofs.{union.Opened.under-open, union.Summing.{childless-many, entries-small}, union.Unions.rooted, walks.Standing.{root-level, under-root}, table.Stored.some_same}
use Rattle.bforest_core.proofs.pool.NodePool.tree_entries.Goals as goal

pub child_count-requires : goal.child_count-requires
child_count-requires g c = let u = under-root c.args.root c.requires.union c.requires.root in let o = under-open c.requires.union.1.capacity u.under in
    (search rules, slice_get_within _ _ _ o.slot_is)

pub node-requires : goal.node-requires
node-requires g c = let u = under-root c.args.root c.requires.union c.requires.root in let o = under-open c.requires.union.1.capacity u.under in
    (search rules, (search rules, slice_get_within _ _ _ o.slot_is))

pub entries-requires : goal.entries-requires
entries-requires g c = let u = under-root c.args.root c.requires.union c.requires.root in let o = under-open c.requires.union.1.capacity u.under in
    let content : c.node.result.now ≡ o.content = some_same (sym c.node.ensures.value ∙ o.slot_is) in
    let many = childless-many o (omega (arith, c.child_count.ensures.value o.content o.slot_is, c.if-child_count-eq0.true, ap length o.children_are, length-map o.top (λ (e : g.row.K.Denot × ℕ). e.1))) in
    (search rules, subst (λ z. ¬ IsFree z) (sym content) many.0)

pub returns-then-child_count-eq0 : goal.returns-then-child_count-eq0
returns-then-child_count-eq0 g c = let u = under-root c.args.root c.requires.union c.requires.root in let o = under-open c.requires.union.1.capacity u.under in
    let content : c.node.result.now ≡ o.content = some_same (sym c.node.ensures.value ∙ o.slot_is) in
    let many = childless-many o (omega (arith, c.child_count.ensures.value o.content o.slot_is, c.if-child_count-eq0.true, ap length o.children_are, length-map o.top (λ (e : g.row.K.Denot × ℕ). e.1))) in
    record { value = c.entries.ensures.value ∙ ap entry_count content ∙ many.1 }

pub entries_below-requires : goal.entries_below-requires
entries_below-requires g c = let tree = tree_of c.args.self.now.nodes c.args.root in let u = under-root c.args.root c.requires.union c.requires.root in
    let o = under-open c.requires.union.1.capacity u.under in let level = root-level tree c.levels.ensures.value in
    let some : 0 < length o.top = omega (arith, c.child_count.ensures.value o.content o.slot_is, c.if-child_count-eq0.false, ap length o.children_are, length-map o.top (λ (e : g.row.K.Denot × ℕ). e.1)) in
    (search rules, (c.requires.union.1.capacity, (omega (arith, level, o.height some), (tree.leaves, tree.above, u.first, u.under, sym level, entries-small c.requires.union.1.capacity c.child_count.ensures.few (rooted g.row.N c.args.self.now c.args.root c.requires.union c.requires.root)))))

pub returns : goal.returns
returns g c = let tree = tree_of c.args.self.now.nodes c.args.root in let u = under-root c.args.root c.requires.union c.requires.root in
    record { value = c.entries_below.ensures _ _ u.first u.under (sym (root-level tree c.levels.ensures.value)) }
