use Rattle.bforest_core.proofs.{Words.rules, walks.Standing.on-leaf}
use Rattle.bforest_core.proofs.path.Path.set_root_node.Goals as goal

pub returns-clause-stands : goal.returns-clause-stands
returns-clause-stands g c = λ table union is leaf. on-leaf table c.args.root _ _ union is leaf (search rules) (search rules)
