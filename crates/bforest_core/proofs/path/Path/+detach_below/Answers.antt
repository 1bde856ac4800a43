use Rattle.bforest_core.proofs.Words.{rules, sym, ◌∙◌, arith, length}
use Rattle.bforest_core.proofs.union.Cutting.{child-is, child-within, inner, leaf, leaf-used, leaf-within}
use Rattle.bforest_core.proofs.union.Detaching.{child-branch, eq-told, ne-told, leaf-low, leaf-parts, leaf-room, own-room, parted-asks, parted-parts, rest-asks, told, whole-asks, whole-parts}
use Rattle.bforest_core.proofs.table.Stored.{some_same}
use Rattle.bforest_core.proofs.path.Path.+detach_below.Goals as goal

pub sever-requires : goal.sever-requires
sever-requires g t c = let b = c.requires.branch.3 in let one = c.requires.capacity in let low = c.if-level-eq0.true in
    (search rules, (leaf-used one b low, ((_, (leaf one b low).slot_is, (λ free. free), leaf-low one b low, leaf-within one b low), leaf-room one b low (length c.args.pool.now.chain) c.requires.branch.4)))

pub returns-then-level-eq0-clause-parts : goal.returns-then-level-eq0-clause-parts
returns-then-level-eq0-clause-parts g t c = λ leaves lower place b.
    (leaf-parts c.requires.capacity b c.if-level-eq0.true c.sever.result c.sever.ensures.none c.sever.ensures.some).0

pub returns-then-level-eq0-clause-whole : goal.returns-then-level-eq0-clause-whole
returns-then-level-eq0-clause-whole g t c = λ leaves lower place b.
    (leaf-parts c.requires.capacity b c.if-level-eq0.true c.sever.result c.sever.ensures.none c.sever.ensures.some).1

pub returns-then-level-eq0-clause-parted : goal.returns-then-level-eq0-clause-parted
returns-then-level-eq0-clause-parted g t c = λ leaves lower place b.
    (leaf-parts c.requires.capacity b c.if-level-eq0.true c.sever.result c.sever.ensures.none c.sever.ensures.some).2

pub child-below-requires : goal.child-below-requires
child-below-requires g t c = let b = c.requires.branch.3 in let one = c.requires.capacity in let high = c.if-level-eq0.false in
    (search rules, (_, _, (inner one b high).slot_is, child-within one b high))

pub detach_below-first-requires : goal.detach_below-first-requires
detach_below-first-requires g t c κs within = let b = c.requires.branch.3 in let one = c.requires.capacity in let high = c.if-level-eq0.false in
    let child = some_same (sym (child-is one b high) ∙ c.child-below.ensures _ _ (inner one b high).slot_is) in
    (omega arith, (within.0, (within.1, ((λ a m. search rules), (search rules, (search rules, (one, (omega (arith, c.requires.low), (_, _, _, child-branch one b high child, own-room one b high (length c.args.pool.now.chain) c.requires.branch.4)))))))))

pub sever-requires-then-eq : goal.sever-requires-then-eq
sever-requires-then-eq g t c = let b = c.requires.branch.3 in let one = c.requires.capacity in let high = c.if-level-eq0.false in
    let below = told one b high (c.child-below.ensures _ _ (inner one b high).slot_is) c.detach_below-first.ensures.parts c.detach_below-first.ensures.whole c.detach_below-first.ensures.parted in
    let asks = whole-asks one b high below (eq-told c.detach_below-first.result c.child-below.result c.eq.ensures c.if-eq.true) c.requires.branch.4 in
    (search rules, (asks.0, (asks.1, asks.2)))

pub returns-then-eq-clause-parts : goal.returns-then-eq-clause-parts
returns-then-eq-clause-parts g t c = λ leaves lower place b. let one = c.requires.capacity in let high = c.if-level-eq0.false in
    let below = told one b high (c.child-below.ensures _ _ (inner one b high).slot_is) c.detach_below-first.ensures.parts c.detach_below-first.ensures.whole c.detach_below-first.ensures.parted in
    (whole-parts one b high below (eq-told c.detach_below-first.result c.child-below.result c.eq.ensures c.if-eq.true) c.sever-then-eq.result c.sever-then-eq.ensures.none c.sever-then-eq.ensures.some).0

pub returns-then-eq-clause-whole : goal.returns-then-eq-clause-whole
returns-then-eq-clause-whole g t c = λ leaves lower place b. let one = c.requires.capacity in let high = c.if-level-eq0.false in
    let below = told one b high (c.child-below.ensures _ _ (inner one b high).slot_is) c.detach_below-first.ensures.parts c.detach_below-first.ensures.whole c.detach_below-first.ensures.parted in
    (whole-parts one b high below (eq-told c.detach_below-first.result c.child-below.result c.eq.ensures c.if-eq.true) c.sever-then-eq.result c.sever-then-eq.ensures.none c.sever-then-eq.ensures.some).1

pub returns-then-eq-clause-parted : goal.returns-then-eq-clause-parted
returns-then-eq-clause-parted g t c = λ leaves lower place b. let one = c.requires.capacity in let high = c.if-level-eq0.false in
    let below = told one b high (c.child-below.ensures _ _ (inner one b high).slot_is) c.detach_below-first.ensures.parts c.detach_below-first.ensures.whole c.detach_below-first.ensures.parted in
    (whole-parts one b high below (eq-told c.detach_below-first.result c.child-below.result c.eq.ensures c.if-eq.true) c.sever-then-eq.result c.sever-then-eq.ensures.none c.sever-then-eq.ensures.some).2

pub sever-behind-requires : goal.sever-behind-requires
sever-behind-requires g t c = let b = c.requires.branch.3 in let one = c.requires.capacity in let high = c.if-level-eq0.false in
    let below = told one b high (c.child-below.ensures _ _ (inner one b high).slot_is) c.detach_below-first.ensures.parts c.detach_below-first.ensures.whole c.detach_below-first.ensures.parted in
    let asks = parted-asks one b high below (ne-told c.detach_below-first.result c.child-below.result c.eq.ensures c.if-eq.false) c.requires.branch.4 in
    (search rules, (asks.0, (asks.1, λ some. asks.2)))

pub set_child-requires : goal.set_child-requires
set_child-requires g t c = let b = c.requires.branch.3 in let one = c.requires.capacity in let high = c.if-level-eq0.false in
    let below = told one b high (c.child-below.ensures _ _ (inner one b high).slot_is) c.detach_below-first.ensures.parts c.detach_below-first.ensures.whole c.detach_below-first.ensures.parted in
    (search rules, (c.sever-behind.ensures.used, rest-asks one b high below (ne-told c.detach_below-first.result c.child-below.result c.eq.ensures c.if-eq.false) c.sever-behind.ensures.some))

pub returns-clause-parts : goal.returns-clause-parts
returns-clause-parts g t c = λ leaves lower place b. let one = c.requires.capacity in let high = c.if-level-eq0.false in
    let below = told one b high (c.child-below.ensures _ _ (inner one b high).slot_is) c.detach_below-first.ensures.parts c.detach_below-first.ensures.whole c.detach_below-first.ensures.parted in
    (parted-parts one b high below (ne-told c.detach_below-first.result c.child-below.result c.eq.ensures c.if-eq.false) c.sever-behind.ensures.some c.set_child.ensures).0

pub returns-clause-whole : goal.returns-clause-whole
returns-clause-whole g t c = λ leaves lower place b. let one = c.requires.capacity in let high = c.if-level-eq0.false in
    let below = told one b high (c.child-below.ensures _ _ (inner one b high).slot_is) c.detach_below-first.ensures.parts c.detach_below-first.ensures.whole c.detach_below-first.ensures.parted in
    (parted-parts one b high below (ne-told c.detach_below-first.result c.child-below.result c.eq.ensures c.if-eq.false) c.sever-behind.ensures.some c.set_child.ensures).1

pub returns-clause-parted : goal.returns-clause-parted
returns-clause-parted g t c = λ leaves lower place b. let one = c.requires.capacity in let high = c.if-level-eq0.false in
    let below = told one b high (c.child-below.ensures _ _ (inner one b high).slot_is) c.detach_below-first.ensures.parts c.detach_below-first.ensures.whole c.detach_below-first.ensures.parted in
    (parted-parts one b high below (ne-told c.detach_below-first.result c.child-below.result c.eq.ensures c.if-eq.false) c.sever-behind.ensures.some c.set_child.ensures).2
