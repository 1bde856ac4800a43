use Rattle.std.proofs.Common.{subst, sym, ◌∙◌}
use Rattle.bforest_trees.proofs.Looking.{empty-place}
use Rattle.bforest_trees.specs.Looks.{IsLook}
use Rattle.bforest_trees.proofs.look.Look.goto.Goals as goal

pub returns-in-None-clause-look : goal.returns-in-None-clause-look
returns-in-None-clause-look g c = subst (IsLook c.args.trees.now c.args.handle c.end.result) (empty-place (g.C.Comparator.order c.args.comp.now) c.args.trees.now c.args.handle c.args.key (sym c.expand.ensures.value ∙ c.in-None.is)) (c.end.ensures.look c.args.trees.now c.args.handle)
