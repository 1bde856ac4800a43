use Rattle.bforest_core.proofs.{Words.{rules, arith, ◌<◌}, removal.OnWay.{balanced-on, child-follows, parent-asks, short-on, still-filled}}
use Rattle.bforest_core.proofs.pool.NodePool.heal_beside.Goals as goal

pub entries-children-requires : goal.entries-children-requires
entries-children-requires g c = (search rules, parent-asks c.requires.taken.2 (omega (arith, c.if-way-eq0.false)))

pub renew_near-requires : goal.renew_near-requires
renew_near-requires g c = let w = c.requires.taken in let more = child-follows _ c.digit.ensures.digit c.if-digit-children.false in
    (search rules, ((w.0, c.args.root, w.1, w.2), still-filled w.2 (omega (arith, c.if-way-eq0.false)) c.entries-children.ensures.value more))

pub returns-then-not-renew_near-clause-same : goal.returns-then-not-renew_near-clause-same
returns-then-not-renew_near-clause-same g c = λ is. c.renew_near.ensures.same c.if-not-renew_near.true

pub balance_on-requires : goal.balance_on-requires
balance_on-requires g c = let w = c.requires.taken in let more = child-follows _ c.digit.ensures.digit c.if-digit-children.false in
    let many : 1 < c.args.way.now.height → 4 < c.entries-children.result = λ high. elim c.else-way-gt1.branch [
      | goal.else-way-gt1-via-then-way-gt1+else-children-le-MIN_CHILDREN w ↦ omega (arith, w.if-children-le-MIN_CHILDREN.false)
      | goal.else-way-gt1-via-else-way-gt1 w ↦ absurd (omega (arith, high, w.if-way-gt1.false))
    ] in
    let l = c.renew_near.ensures.renewed c.if-not-renew_near.false w.0 c.args.root w.1 w.2 in
    (search rules, short-on w.2 l c.requires.short (omega (arith, c.if-way-eq0.false)) (c.renew_near.ensures.children _ c.entries-children.ensures.value) many more)

pub returns-clause-healed : goal.returns-clause-healed
returns-clause-healed g c = λ old place t. let more = child-follows _ c.digit.ensures.digit c.if-digit-children.false in
    let many : 1 < c.args.way.now.height → 4 < c.entries-children.result = λ high. elim c.else-way-gt1.branch [
      | goal.else-way-gt1-via-then-way-gt1+else-children-le-MIN_CHILDREN w ↦ omega (arith, w.if-children-le-MIN_CHILDREN.false)
      | goal.else-way-gt1-via-else-way-gt1 w ↦ absurd (omega (arith, high, w.if-way-gt1.false))
    ] in
    let l = c.renew_near.ensures.renewed c.if-not-renew_near.false old c.args.root place t in
    balanced-on t l (c.balance_on.ensures (short-on t l c.requires.short (omega (arith, c.if-way-eq0.false)) (c.renew_near.ensures.children _ c.entries-children.ensures.value) many more))
