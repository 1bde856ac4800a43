use Rattle.bforest_core.proofs.Words.{rules, sym, ◌∙◌, arith}
use Rattle.bforest_core.proofs.union.Cutting.{child-is, child-within, inner, leaf, leaf-used}
use Rattle.bforest_core.proofs.union.Detaching.{back-asks, front-asks, inner-behind, leaf-behind, leaf-low, swept-branch}
use Rattle.bforest_core.proofs.table.Stored.{some_same}
use Rattle.bforest_core.proofs.path.Path.+cut_in_front.Goals as goal

pub keep_back-requires : goal.keep_back-requires
keep_back-requires g t c = let b = c.requires.branch.3 in let one = c.requires.capacity in let low = c.if-level-eq0.true in
    (search rules, (leaf-used one b low, (_, (leaf one b low).slot_is, (λ free. free), leaf-low one b low)))

pub returns-then-level-eq0 : goal.returns-then-level-eq0
returns-then-level-eq0 g t c = λ leaves lower place b. leaf-behind c.requires.capacity b c.if-level-eq0.true c.keep_back.ensures

pub child-below-requires : goal.child-below-requires
child-below-requires g t c = let b = c.requires.branch.3 in let one = c.requires.capacity in let high = c.if-level-eq0.false in
    (search rules, (_, _, (inner one b high).slot_is, child-within one b high))

pub free_children-requires : goal.free_children-requires
free_children-requires g t c = let b = c.requires.branch.3 in let one = c.requires.capacity in let high = c.if-level-eq0.false in
    (search rules, (one, (_, _, _, front-asks one b high c.requires.low)))

pub cut_in_front-requires : goal.cut_in_front-requires
cut_in_front-requires g t c κs within = let b = c.requires.branch.3 in let one = c.requires.capacity in let high = c.if-level-eq0.false in
    let swept = (c.free_children.ensures _ _ _ (front-asks one b high c.requires.low)).1 in
    let child = some_same (sym (child-is one b high) ∙ c.child-below.ensures _ _ (inner one b high).slot_is) in
    (omega arith, (within.0, (within.1, ((λ a m. search rules), (search rules, (search rules, (one, (omega (arith, c.requires.low), (_, _, _, swept-branch one b high swept child)))))))))

pub keep_back-requires-2 : goal.keep_back-requires-2
keep_back-requires-2 g t c = let b = c.requires.branch.3 in let one = c.requires.capacity in let high = c.if-level-eq0.false in
    let swept = (c.free_children.ensures _ _ _ (front-asks one b high c.requires.low)).1 in
    let child = some_same (sym (child-is one b high) ∙ c.child-below.ensures _ _ (inner one b high).slot_is) in
    (search rules, back-asks one b high swept child (c.cut_in_front.ensures _ _ _ (swept-branch one b high swept child)))

pub returns : goal.returns
returns g t c = λ leaves lower place b. let one = c.requires.capacity in let high = c.if-level-eq0.false in
    let swept = (c.free_children.ensures _ _ _ (front-asks one b high c.requires.low)).1 in
    let child = some_same (sym (child-is one b high) ∙ c.child-below.ensures _ _ (inner one b high).slot_is) in
    inner-behind one b high swept child (c.cut_in_front.ensures _ _ _ (swept-branch one b high swept child)) c.keep_back-2.ensures
