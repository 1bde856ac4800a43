use Rattle.std.proofs.Common.{rules, subst, sym, ◌∙◌}
use Rattle.std.specs.Iterator.{YieldsLast}
use Rattle.bforest_trees.specs.Range.{back_held}
use Rattle.bforest_trees.proofs.ranges.Ranging.{back-beside, back-passed, back-told, last-after, last-beside, last-taken, none-told, passed-asks}
use Rattle.bforest_trees.proofs.trees.Trees.range_next_back.Goals as goal

pub returns-then-is_some : goal.returns-then-is_some
returns-then-is_some g c =
    let t = c.take_back-last in
    let s = back-told c.args.self.now c.args.handle c.requires.range t.new.self t.ensures.rest t.ensures.fewer t.result c.is_some.result c.is_some.ensures c.if-is_some.true t.ensures.steps in
    record { steps = s.steps; range = s.range }

pub returns-then-ends : goal.returns-then-ends
returns-then-ends g c =
    let t = c.take_back-last in
    let none = none-told t.result c.is_some.result c.is_some.ensures c.if-is_some.false in
    let p = back-passed c.args.self.now c.args.handle c.requires.range t.new.self t.ensures.rest t.ensures.fewer (subst (λ o. YieldsLast back_held c.args.ends.now o t.new.self) none t.ensures.steps) in
    let l = c.take_last in
    let s = last-after c.args.self.now c.args.handle p.left l.result (last-taken c.args.self.now c.args.handle p.range l.new.self l.ensures.rest l.ensures.fewer l.result l.ensures.steps c.if-ends.true) in
    record { steps = s.steps; range = s.range }

pub enter_prev-requires : goal.enter_prev-requires
enter_prev-requires g c =
    let t = c.take_back-last in
    let none = none-told t.result c.is_some.result c.is_some.ensures c.if-is_some.false in
    let p = back-passed c.self.inside.pool c.args.handle (rw (← c.self.view_is) at c.requires.range) t.new.self t.ensures.rest t.ensures.fewer (subst (λ o. YieldsLast back_held c.args.ends.now o t.new.self) none t.ensures.steps) in
    let asks = passed-asks (sym c.expand.ensures.value ∙ c.in_ok-root.was) p c.if-ends.false in
    (search rules, (c.self.invariant, (asks.0, (asks.1, asks.2))))

pub returns-in-Some : goal.returns-in-Some
returns-in-Some g c =
    let t = c.take_back-last in
    let none = none-told t.result c.is_some.result c.is_some.ensures c.if-is_some.false in
    let p = back-passed c.self.inside.pool c.args.handle (rw (← c.self.view_is) at c.requires.range) t.new.self t.ensures.rest t.ensures.fewer (subst (λ o. YieldsLast back_held c.args.ends.now o t.new.self) none t.ensures.steps) in
    let n = c.enter_prev in
    let b = c.take_back in
    let s = back-beside (sym c.expand.ensures.value ∙ c.in_ok-root.was) p n.ensures.left n.ensures.range b.ensures.rest b.ensures.fewer c.in-Some.last (subst (λ o. YieldsLast back_held n.new.self o b.new.self) c.in-Some.is b.ensures.steps) in
    rw (← c.self.view_is) (record { steps = s.steps; range = s.range })

pub returns-in-None : goal.returns-in-None
returns-in-None g c =
    let t = c.take_back-last in
    let none = none-told t.result c.is_some.result c.is_some.ensures c.if-is_some.false in
    let p = back-passed c.self.inside.pool c.args.handle (rw (← c.self.view_is) at c.requires.range) t.new.self t.ensures.rest t.ensures.fewer (subst (λ o. YieldsLast back_held c.args.ends.now o t.new.self) none t.ensures.steps) in
    let n = c.enter_prev in
    let b = c.take_back in
    let l = c.take_last-in-None in
    let s = last-beside (sym c.expand.ensures.value ∙ c.in_ok-root.was) p n.ensures.left n.ensures.range b.ensures.rest b.ensures.fewer n.ensures.some (subst (λ o. YieldsLast back_held n.new.self o b.new.self) c.in-None.is b.ensures.steps) l.result l.ensures.steps l.ensures.rest l.ensures.fewer in
    rw (← c.self.view_is) (record { steps = s.steps; range = s.range })
