use Rattle.bforest_core.proofs.Words.{rules, ◌≡◌, [], ◌∷◌, ◌+◌, ◌++◌, Heads, length, length-append, length-map, slice_get, sym, ap, subst, ◌∙◌, arith}
use Rattle.bforest_core.proofs.Words.{slice_get_within, children_of, entry_count, IsInner, Under, Frees, inner_content, numbers_down, numbers_under}
use Rattle.bforest_core.proofs.union.Emptying.{Emptying, emptying-first, emptying-last, emptying-next, emptying-turn}
use Rattle.bforest_core.proofs.table.Stored.{some_same}
use Rattle.bforest_core.proofs.pool.NodePool.free_children.Goals as goal

-- how many children there are
counted : {K : Type 0} (V : Type 0) (before top after : Heads K) → entry_count (inner_content {V = V} (before ++ (top ++ after))) ≡ length before + length top + length after
counted V before top after = omega (arith, length-map (before ++ (top ++ after)) (λ e. e.1), length-append before (top ++ after), length-append top after)

pub loop-index-init : goal.loop-index-init
loop-index-init g c = λ leaves lower top b. emptying-first b c.requires.capacity

pub node-requires : goal.node-requires
node-requires g c = let w = c.requires.children in (search rules, (search rules, slice_get_within _ _ _ (c.loop-index.invariant w.0 w.1 w.2 w.3).slot_is))

pub child-child-requires : goal.child-child-requires
child-child-requires g c = let w = c.requires.children in let s = c.loop-index.invariant w.0 w.1 w.2 w.3 in
    let content : c.node.result.now ≡ inner_content (w.3.before ++ (w.2 ++ w.3.after)) = some_same (sym c.node.ensures.value ∙ s.slot_is) in
    (search rules, (subst IsInner (sym content) tt, omega (arith, ap entry_count content, w.3.from_is, w.3.to_is, counted g.row.V.Denot w.3.before w.2 w.3.after)))

pub free_below-requires : goal.free_below-requires
free_below-requires g c = let one = c.requires.capacity in let w = c.requires.children in let s = c.loop-index.invariant w.0 w.1 w.2 w.3 in
    let content : c.node.result.now ≡ inner_content (w.3.before ++ (w.2 ++ w.3.after)) = some_same (sym c.node.ensures.value ∙ s.slot_is) in
    let x = emptying-turn w.3 one (omega arith) s (ap (λ z. slice_get (children_of z) c.loop-index.index) (sym content) ∙ c.child-child.ensures.child) in
    let under = subst (λ z. Under g.row.N c.loop-index.self.nodes x.2.cut.leaves_left x.2.cut.lower_left ((x.0.0, z) ∷ [])) x.1 x.2.under in
    (search rules, (one, (x.2.cut.leaves_left, x.2.cut.lower_left, x.0.0, under, x.2.apart, omega (arith, x.2.cut.left_height, x.2.swept.height, w.3.low))))

pub loop-index-preserved : goal.loop-index-preserved
loop-index-preserved g c = λ leaves lower top b. let one = c.requires.capacity in let s = c.loop-index.invariant leaves lower top b in
    let content : c.node.result.now ≡ inner_content (b.before ++ (top ++ b.after)) = some_same (sym c.node.ensures.value ∙ s.slot_is) in
    let x = emptying-turn b one (omega arith) s (ap (λ z. slice_get (children_of z) c.loop-index.index) (sym content) ∙ c.child-child.ensures.child) in
    let under = subst (λ z. Under g.row.N c.loop-index.self.nodes x.2.cut.leaves_left x.2.cut.lower_left ((x.0.0, z) ∷ [])) x.1 x.2.under in let gone =
    subst (λ z. Frees c.loop-index.self c.free_below.new.self (numbers_under x.2.cut.leaves_left x.2.cut.lower_left) [] (numbers_down c.loop-index.self.nodes (length x.2.cut.lower_left) z)) (sym x.1)
    (c.free_below.ensures x.2.cut.leaves_left x.2.cut.lower_left x.0.0 under x.2.apart) in
    subst (Emptying b c.free_below.new.self) (omega arith) (emptying-next b one x.0 s x.2 gone)

pub returns : goal.returns
returns g c = λ leaves lower top b. let s = c.loop-index.invariant leaves lower top b in
    (_, emptying-last b c.requires.capacity s (omega (arith, b.to_is)))
