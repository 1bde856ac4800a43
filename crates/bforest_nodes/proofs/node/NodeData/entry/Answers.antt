use Rattle.std.proofs.Common.{rules}
use Rattle.bforest_nodes.proofs.States.{entries_of_leaf, entries_within}
use Rattle.bforest_nodes.proofs.node.NodeData.entry.Goals as goal

pub unreachable-requires : goal.unreachable-requires
unreachable-requires g c = entries_of_leaf c.self.inside.state c.in_default.not-Entries (rw (← c.self.view_is) at c.requires.leaf)

pub returns-clause-key : goal.returns-clause-key
returns-clause-key g c = search rules

pub returns-clause-value : goal.returns-clause-value
returns-clause-value g c = search rules

pub at-requires : goal.at-requires
at-requires g c = search (rules, entries_within _ _ _ _ _ c.self.view_is c.in-Entries.is c.requires.within)

pub at-requires-in-Entries : goal.at-requires-in-Entries
at-requires-in-Entries g c = search (rules, entries_within _ _ _ _ _ c.self.view_is c.in-Entries.is c.requires.within)
