use Rattle.bforest_core.proofs.Words.{get_or_default, refl, arith}
use Rattle.bforest_core.proofs.path.Path.leaf_pos.Goals as goal

pub returns-else-self-eq0-clause-place : goal.returns-else-self-eq0-clause-place
returns-else-self-eq0-clause-place g c = λ some. rw (get_or_default c.args.self.now.node 0 c.index-self-0.result 0 (omega arith)) refl
