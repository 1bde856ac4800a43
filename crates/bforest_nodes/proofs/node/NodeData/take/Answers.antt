use Rattle.std.proofs.Common.{◌∙◌}
use Rattle.bforest_nodes.proofs.Puts.{absent-answer, absent-node, taken-answer, taken-node}
use Rattle.bforest_nodes.proofs.States.{entries_of_leaf}
use Rattle.bforest_nodes.proofs.node.NodeData.take.Goals as goal
use Rattle.bforest_nodes.proofs.node.NodeData.take.Goals.{in-Err, in-Ok}

pub unreachable-requires : goal.unreachable-requires
unreachable-requires g c = entries_of_leaf c.self.inside.state c.in_default.not-Entries (rw (← c.self.view_is) at c.requires.leaf)

pub returns-clause-answer : goal.returns-clause-answer
returns-clause-answer g c =
    let found = c.search_prefix.ensures (rw (← c.self.view_is, c.in-Entries.is) at c.requires.sorted) in
    rw (← c.self.view_is, c.in-Entries.is) (elim c.match-search_prefix.branch [
      | in-Ok w ↦ w.result-is ∙ taken-answer c.in-Entries.size c.in-Entries.field-1 found w.in-Ok.is w.at-old.ensures
      | in-Err w ↦ w.result-is ∙ absent-answer c.in-Entries.size c.in-Entries.field-1 found w.in-Err.is
    ])

pub returns-clause-node : goal.returns-clause-node
returns-clause-node g c =
    let found = c.search_prefix.ensures (rw (← c.self.view_is, c.in-Entries.is) at c.requires.sorted) in
    rw (← c.self.view_is, c.in-Entries.is) (elim c.match-search_prefix.branch [
      | in-Ok w ↦ rw w.self-inside-is (taken-node c.in-Entries.size c.in-Entries.field-1 found w.in-Ok.is _ _ w.remove.ensures w.remove-in-Ok.ensures)
      | in-Err w ↦ rw w.self-inside-is (absent-node c.in-Entries.size c.in-Entries.field-1 found w.in-Err.is)
    ])
