use Rattle.bforest_core.proofs.Words.{rules, sym, ◌∙◌, arith}
use Rattle.bforest_core.proofs.union.Cutting.{behind-asks, child-asks, child-is, child-within, inner, inner-left, kept-within, leaf, leaf-left, leaf-used, leaf-within, slot-is, used-asks}
use Rattle.bforest_core.proofs.table.Stored.{some_same}
use Rattle.bforest_core.proofs.path.Path.+cut_below.Goals as goal

pub keep_front-requires : goal.keep_front-requires
keep_front-requires g t c = let b = c.requires.branch.3 in let one = c.requires.capacity in let low = c.if-level-eq0.true in
    (search rules, (leaf-used one b low, (_, (leaf one b low).slot_is, (λ free. free), leaf-within one b low)))

pub returns-then-level-eq0-clause-left : goal.returns-then-level-eq0-clause-left
returns-then-level-eq0-clause-left g t c = λ leaves lower place b.
    (leaf-left c.requires.capacity b c.if-level-eq0.true c.keep_front.result c.keep_front.ensures.none c.keep_front.ensures.some).0

pub returns-then-level-eq0-clause-none : goal.returns-then-level-eq0-clause-none
returns-then-level-eq0-clause-none g t c = λ leaves lower place b.
    (leaf-left c.requires.capacity b c.if-level-eq0.true c.keep_front.result c.keep_front.ensures.none c.keep_front.ensures.some).1

pub returns-then-level-eq0-clause-one : goal.returns-then-level-eq0-clause-one
returns-then-level-eq0-clause-one g t c = c.keep_front.ensures.one

pub child-below-requires : goal.child-below-requires
child-below-requires g t c = let b = c.requires.branch.3 in let one = c.requires.capacity in let high = c.if-level-eq0.false in
    (search rules, (_, _, (inner one b high).slot_is, child-within one b high))

pub entries-requires : goal.entries-requires
entries-requires g t c = let b = c.requires.branch.3 in let one = c.requires.capacity in let high = c.if-level-eq0.false in
    (search rules, (_, (inner one b high).slot_is, λ free. free))

pub free_children-requires : goal.free_children-requires
free_children-requires g t c = let b = c.requires.branch.3 in let one = c.requires.capacity in let high = c.if-level-eq0.false in
    (search rules, (one, (_, _, _, behind-asks one b high (c.entries.ensures.value _ (inner one b high).slot_is) c.requires.low)))

pub cut_below-kept-requires : goal.cut_below-kept-requires
cut_below-kept-requires g t c κs within = let b = c.requires.branch.3 in let one = c.requires.capacity in let high = c.if-level-eq0.false in
    let swept = (c.free_children.ensures _ _ _ (behind-asks one b high (c.entries.ensures.value _ (inner one b high).slot_is) c.requires.low)).1 in
    let child = some_same (sym (child-is one b high) ∙ c.child-below.ensures _ _ (inner one b high).slot_is) in
    (omega arith, (within.0, (within.1, ((λ a m. search rules), (search rules, (search rules, (one, (omega (arith, c.requires.low), (_, _, _, child-asks one b high swept child)))))))))

pub keep_front-requires-2 : goal.keep_front-requires-2
keep_front-requires-2 g t c = let b = c.requires.branch.3 in let one = c.requires.capacity in let high = c.if-level-eq0.false in
    let swept = (c.free_children.ensures _ _ _ (behind-asks one b high (c.entries.ensures.value _ (inner one b high).slot_is) c.requires.low)).1 in
    let child = some_same (sym (child-is one b high) ∙ c.child-below.ensures _ _ (inner one b high).slot_is) in
    let asks = child-asks one b high swept child in
    let cuts = c.cut_below-kept.ensures.left _ _ _ asks in
    let none = c.cut_below-kept.ensures.none _ _ _ asks in let few = c.cut_below-kept.ensures.one in
    (search rules, (used-asks one b high swept cuts, (_, slot-is one b high swept cuts, (λ free. free), kept-within one b high c.cut_below-kept.result none few)))

pub returns-clause-left : goal.returns-clause-left
returns-clause-left g t c = λ leaves lower place b. let one = c.requires.capacity in let high = c.if-level-eq0.false in
    let swept = (c.free_children.ensures _ _ _ (behind-asks one b high (c.entries.ensures.value _ (inner one b high).slot_is) c.requires.low)).1 in
    let child = some_same (sym (child-is one b high) ∙ c.child-below.ensures _ _ (inner one b high).slot_is) in
    let asks = child-asks one b high swept child in
    (inner-left one b high swept (c.cut_below-kept.ensures.left _ _ _ asks) c.cut_below-kept.result (c.cut_below-kept.ensures.none _ _ _ asks) c.cut_below-kept.ensures.one c.keep_front-2.result c.keep_front-2.ensures.none c.keep_front-2.ensures.some).0

pub returns-clause-none : goal.returns-clause-none
returns-clause-none g t c = λ leaves lower place b. let one = c.requires.capacity in let high = c.if-level-eq0.false in
    let swept = (c.free_children.ensures _ _ _ (behind-asks one b high (c.entries.ensures.value _ (inner one b high).slot_is) c.requires.low)).1 in
    let child = some_same (sym (child-is one b high) ∙ c.child-below.ensures _ _ (inner one b high).slot_is) in
    let asks = child-asks one b high swept child in
    (inner-left one b high swept (c.cut_below-kept.ensures.left _ _ _ asks) c.cut_below-kept.result (c.cut_below-kept.ensures.none _ _ _ asks) c.cut_below-kept.ensures.one c.keep_front-2.result c.keep_front-2.ensures.none c.keep_front-2.ensures.some).1

pub returns-clause-one : goal.returns-clause-one
returns-clause-one g t c = c.keep_front-2.ensures.one
