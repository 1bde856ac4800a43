use Rattle.std.proofs.Common.{ap, rules, subst, sym, ◌∙◌}
use Rattle.std.specs.Iterator.{YieldsFirst}
use Rattle.bforest_trees.specs.Range.{front_held}
use Rattle.bforest_trees.proofs.ranges.Ranging.{first-beside, first-taken, front-passed, none-told, passed-asks, some-told}
use Rattle.bforest_trees.proofs.trees.Trees.range_next.Goals.{then-is_some-via-then-is_some, then-is_some-via-else-is_some+then-ends}
use Rattle.bforest_trees.proofs.trees.Trees.range_next.Goals as goal

pub returns-then-is_some : goal.returns-then-is_some
returns-then-is_some g c =
    let t = c.take_first-first in
    let s = first-taken c.args.self.now c.args.handle c.requires.range t.new.self t.ensures.rest t.result t.ensures.steps (λ none. elim c.then-is_some.branch [
      | then-is_some-via-then-is_some w ↦ absurd (some-told t.result c.is_some.result c.is_some.ensures w.if-is_some.true none)
      | then-is_some-via-else-is_some+then-ends w ↦ ap (λ z. z.is_one) (sym t.ensures.rest) ∙ w.if-ends.true
    ]) in record { steps = s.steps; range = s.range }

pub enter_next-requires : goal.enter_next-requires
enter_next-requires g c =
    let t = c.take_first-first in
    let pool = c.self.inside.pool in
    let none = none-told t.result c.is_some.result c.is_some.ensures c.if-is_some.false in
    let p = front-passed pool c.args.handle (rw (← c.self.view_is) at c.requires.range) t.new.self t.ensures.rest (subst (λ o. YieldsFirst front_held c.args.ends.now o t.new.self) none t.ensures.steps) in
    let asks = passed-asks (sym c.expand.ensures.value ∙ c.in_ok-root.was) p c.if-ends.false in
    (search rules, (c.self.invariant, (asks.0, (asks.1, asks.2))))

pub returns : goal.returns
returns g c =
    let t = c.take_first-first in
    let pool = c.self.inside.pool in
    let none = none-told t.result c.is_some.result c.is_some.ensures c.if-is_some.false in
    let p = front-passed pool c.args.handle (rw (← c.self.view_is) at c.requires.range) t.new.self t.ensures.rest (subst (λ o. YieldsFirst front_held c.args.ends.now o t.new.self) none t.ensures.steps) in
    let s = first-beside (sym c.expand.ensures.value ∙ c.in_ok-root.was) p c.enter_next.ensures.left c.enter_next.ensures.range c.enter_next.ensures.some c.take_first.result c.take_first.ensures.steps c.take_first.ensures.rest in
    rw (← c.self.view_is) (record { steps = s.steps; range = s.range })
