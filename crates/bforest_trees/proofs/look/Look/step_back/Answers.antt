use Rattle.bforest_trees.proofs.Looking.{back-behind, back-look, back-within}
use Rattle.bforest_trees.proofs.look.Look.step_back.Goals as goal

pub returns-then-self-gt0-clause-look : goal.returns-then-self-gt0-clause-look
returns-then-self-gt0-clause-look g c = λ at. back-look at.is c.if-self-gt0.true (back-within at.is c.if-self-gt0.true)

pub returns-then-self-gt0-clause-some : goal.returns-then-self-gt0-clause-some
returns-then-self-gt0-clause-some g c = λ yes. back-within c.requires.stands.is c.if-self-gt0.true

pub returns-then-self-gt0-clause-behind : goal.returns-then-self-gt0-clause-behind
returns-then-self-gt0-clause-behind g c = λ yes at. back-behind at.is c.if-self-gt0.true

pub returns : goal.returns
returns g c = record { look = c.enter_prev.ensures.look; some = c.enter_prev.ensures.some; behind = c.enter_prev.ensures.behind; none = c.enter_prev.ensures.none }
