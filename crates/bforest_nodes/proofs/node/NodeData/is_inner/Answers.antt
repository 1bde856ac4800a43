use Rattle.std.proofs.lemmas.Bool.{false≢true}
use Rattle.bforest_nodes.proofs.States.{branch_of_inner}
use Rattle.bforest_nodes.proofs.node.NodeData.is_inner.Goals as goal

pub returns-in_default : goal.returns-in_default
returns-in_default g c =
    record { inner = (λ yes. absurd (false≢true yes), λ inner. absurd (branch_of_inner c.self.inside.state c.in_default.not-Branch (rw (← c.self.view_is) at inner))) }
