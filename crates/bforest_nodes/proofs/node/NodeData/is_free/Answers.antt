use Rattle.std.proofs.lemmas.Bool.{false≢true}
use Rattle.bforest_nodes.proofs.States.{vacant_of_free}
use Rattle.bforest_nodes.proofs.node.NodeData.is_free.Goals as goal

pub returns-in_default : goal.returns-in_default
returns-in_default g c =
    record { free = (λ yes. absurd (false≢true yes), λ free. absurd (vacant_of_free c.self.inside.state c.in_default.not-Vacant (rw (← c.self.view_is) at free))) }
