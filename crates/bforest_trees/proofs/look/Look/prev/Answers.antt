use Rattle.bforest_trees.proofs.Looking.{before-first, before-there, paired}
use Rattle.bforest_trees.specs.Forest.{list_of}
use Rattle.bforest_trees.specs.Looks.{AtLook}
use Rattle.bforest_trees.proofs.look.Look.prev.Goals as goal

pub here-requires-clause-within : goal.here-requires-clause-within
here-requires-clause-within g c = c.step_back.ensures.some c.if-step_back.true

pub here-requires-clause-paired : goal.here-requires-clause-paired
here-requires-clause-paired g c =
    let at : AtLook c.trees.inside.pool c.args.handle c.args.self.now = rw (← c.trees.view_is) at c.requires.stands in
    paired (c.step_back.ensures.look at)

pub returns-then-step_back-clause-value : goal.returns-then-step_back-clause-value
returns-then-step_back-clause-value g c = λ at.
    let here : AtLook c.trees.inside.pool c.args.handle c.args.self.now = rw (← c.trees.view_is) at at in
    rw (← c.trees.view_is) (before-there (c.step_back.ensures.look here) (c.step_back.ensures.behind c.if-step_back.true here) c.here.result c.here.ensures.key c.here.ensures.value)

pub returns-else-step_back-clause-value : goal.returns-else-step_back-clause-value
returns-else-step_back-clause-value g c = λ at.
    let here : AtLook c.trees.inside.pool c.args.handle c.args.self.now = rw (← c.trees.view_is) at at in
    rw (← c.trees.view_is) (before-first (list_of c.trees.inside.pool c.args.handle) (c.step_back.ensures.none c.if-step_back.false here))

pub returns-then-step_back-clause-look : goal.returns-then-step_back-clause-look
returns-then-step_back-clause-look g c = rw (← c.trees.view_is) c.step_back.ensures.look

pub returns-else-step_back-clause-look : goal.returns-else-step_back-clause-look
returns-else-step_back-clause-look g c = rw (← c.trees.view_is) c.step_back.ensures.look
