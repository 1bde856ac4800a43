use Rattle.std.proofs.Common.{rules, sym, ◌∙◌}
use Rattle.bforest_trees.proofs.Crossing.{next-asks, next-none, next-some}
use Rattle.bforest_trees.proofs.Looking.{behind-none}
use Rattle.bforest_trees.proofs.look.Look.next_leaf.Goals as goal

pub returns-in_err-root-clause-none : goal.returns-in_err-root-clause-none
returns-in_err-root-clause-none g c = λ none. behind-none (sym c.expand.ensures.value ∙ c.in_err-root.was)

pub next-requires : goal.next-requires
next-requires g c = (search rules, (c.requires.union, next-asks c.args.pool.now c.args.self.now (sym c.expand.ensures.value ∙ c.in_ok-root.was) c.requires.behind.1))

pub returns-clause-some : goal.returns-clause-some
returns-clause-some g c = next-some c.args.pool.now c.args.self.now (sym c.expand.ensures.value ∙ c.in_ok-root.was) c.next.result c.next.ensures.alone c.next.ensures.some

pub returns-clause-none : goal.returns-clause-none
returns-clause-none g c = next-none c.args.pool.now c.args.self.now (sym c.expand.ensures.value ∙ c.in_ok-root.was) c.next.result c.next.ensures.alone c.next.ensures.none
