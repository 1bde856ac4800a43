use Rattle.std.proofs.Common.{Option, rules, subst, sym, ◌∙◌, ℕ}
use Rattle.bforest_trees.proofs.Changed.{live-root}
use Rattle.bforest_trees.proofs.Crossing.{last-up-to, prev-asks, prev-none, prev-some}
use Rattle.bforest_trees.proofs.Looking.{look-none, none-tested, some-tested}
use Rattle.bforest_trees.specs.Forest.{IsLive}
use Rattle.bforest_trees.proofs.look.Look.leaf_before.Goals as goal

pub returns-in_err-root-clause-none : goal.returns-in_err-root-clause-none
returns-in_err-root-clause-none g c = λ none. look-none (sym c.expand.ensures.value ∙ c.in_err-root.was)

pub returns-then-is_empty-clause-none : goal.returns-then-is_empty-clause-none
returns-then-is_empty-clause-none g c = λ none. absurd (cc)

pub last-requires : goal.last-requires
last-requires g c = (search rules, (c.requires.union, live-root c.args.pool.now c.in_ok-root.root (subst (λ (h : Option ℕ). IsLive c.args.pool.now h) (sym c.expand.ensures.value ∙ c.in_ok-root.was) c.requires.live)))

pub returns-then-is_empty-clause-some : goal.returns-then-is_empty-clause-some
returns-then-is_empty-clause-some g c = last-up-to c.args.pool.now c.args.self.now (sym c.expand.ensures.value ∙ c.in_ok-root.was) c.last.result.0 c.last.result.1 c.last.ensures.spot c.last.ensures.leaf (none-tested c.args.self.now.keys.now c.is_empty.result c.is_empty.ensures c.if-is_empty.true)

pub prev_other-requires : goal.prev_other-requires
prev_other-requires g c = (search rules, (c.requires.union, (prev-asks c.args.pool.now c.args.self.now (sym c.expand.ensures.value ∙ c.in_ok-root.was) c.requires.stands.is, c.requires.other)))

pub returns-clause-some : goal.returns-clause-some
returns-clause-some g c = prev-some c.args.pool.now c.args.self.now (sym c.expand.ensures.value ∙ c.in_ok-root.was) c.prev_other.result c.prev_other.ensures.alone c.requires.first c.prev_other.ensures.some

pub returns-clause-none : goal.returns-clause-none
returns-clause-none g c = λ none. prev-none c.args.pool.now c.args.self.now (sym c.expand.ensures.value ∙ c.in_ok-root.was) c.requires.first (some-tested c.args.self.now.keys.now c.is_empty.result c.is_empty.ensures c.if-is_empty.false) (c.prev_other.ensures.none none)
