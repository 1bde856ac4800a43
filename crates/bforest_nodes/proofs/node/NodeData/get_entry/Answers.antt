use Rattle.std.proofs.Common.{rules}
use Rattle.bforest_nodes.proofs.States.{no_key, no_value}
use Rattle.bforest_nodes.proofs.node.NodeData.get_entry.Goals as goal

pub returns-else-index-len-clause-key : goal.returns-else-index-len-clause-key
returns-else-index-len-clause-key g c = no_key c.self.inside.state c.in-Entries.size c.in-Entries.field-1 c.args.self.now c.args.index c.self.view_is c.in-Entries.is (search rules)

pub returns-else-index-len-clause-value : goal.returns-else-index-len-clause-value
returns-else-index-len-clause-value g c = no_value c.self.inside.state c.in-Entries.size c.in-Entries.field-1 c.args.self.now c.args.index c.self.view_is c.in-Entries.is (search rules)
