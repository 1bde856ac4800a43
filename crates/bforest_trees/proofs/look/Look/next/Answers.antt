use Rattle.std.proofs.Common.{rules, ◌+◌, ◌∙◌}
use Rattle.bforest_trees.proofs.Looking.{entry-there, paired, past-next, read-min}
use Rattle.bforest_trees.specs.Forest.{list_of}
use Rattle.bforest_trees.specs.Looks.{AtLook}
use Rattle.bforest_trees.proofs.look.Look.next.Goals as goal

pub step_on-requires : goal.step_on-requires
step_on-requires g c = (search rules, (c.trees.invariant, rw (← c.trees.view_is) at c.requires.stands))

pub here-requires-clause-within : goal.here-requires-clause-within
here-requires-clause-within g c = c.step_on.ensures.some c.if-step_on.true

pub here-requires-clause-paired : goal.here-requires-clause-paired
here-requires-clause-paired g c =
    let at : AtLook c.trees.inside.pool c.args.handle c.args.self.now = rw (← c.trees.view_is) at c.requires.stands in
    paired (c.step_on.ensures.look at)

pub returns-then-step_on-clause-value : goal.returns-then-step_on-clause-value
returns-then-step_on-clause-value g c = λ at.
    let here : AtLook c.trees.inside.pool c.args.handle c.args.self.now = rw (← c.trees.view_is) at at in
    let list = list_of c.trees.inside.pool c.args.handle in
    rw (← c.trees.view_is) (entry-there (c.step_on.ensures.look here) c.here.result c.here.ensures.key c.here.ensures.value ∙ read-min list (here.place + 1))

pub returns-else-step_on-clause-value : goal.returns-else-step_on-clause-value
returns-else-step_on-clause-value g c = λ at.
    let here : AtLook c.trees.inside.pool c.args.handle c.args.self.now = rw (← c.trees.view_is) at at in
    rw (← c.trees.view_is) (past-next (list_of c.trees.inside.pool c.args.handle) (here.place + 1) (c.step_on.ensures.none c.if-step_on.false here))

pub returns-then-step_on-clause-look : goal.returns-then-step_on-clause-look
returns-then-step_on-clause-look g c = rw (← c.trees.view_is) c.step_on.ensures.look

pub returns-else-step_on-clause-look : goal.returns-else-step_on-clause-look
returns-else-step_on-clause-look g c = rw (← c.trees.view_is) c.step_on.ensures.look
