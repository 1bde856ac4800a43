use Rattle.std.proofs.Common.{length, rules, ◌∙◌, ◌≡◌}
use Rattle.bforest_nodes.proofs.Puts.{full-answer, full-node, new-answer, new-node, replaced-answer, replaced-node}
use Rattle.bforest_nodes.proofs.States.{entries_of_leaf}
use Rattle.bforest_nodes.proofs.node.NodeData.put.Goals as goal
use Rattle.bforest_nodes.proofs.node.NodeData.put.Goals.{in-Err+else-count, in-Ok}

pub unreachable-requires : goal.unreachable-requires
unreachable-requires g c = entries_of_leaf c.self.inside.state c.in_default.not-Entries (rw (← c.self.view_is) at c.requires.leaf)

pub returns-then-count-clause-answer : goal.returns-then-count-clause-answer
returns-then-count-clause-answer g c =
    let found = c.search_prefix.ensures (rw (← c.self.view_is, c.in-Entries.is) at c.requires.sorted) in
    let room : length c.in-Entries.field-1.keys.items ≡ g.row.N = search rules in
    rw (← c.self.view_is, c.in-Entries.is) (full-answer c.in-Entries.size c.in-Entries.field-1 found c.in-Err.is room c.if-count.true)

pub returns-then-count-clause-node : goal.returns-then-count-clause-node
returns-then-count-clause-node g c =
    let found = c.search_prefix.ensures (rw (← c.self.view_is, c.in-Entries.is) at c.requires.sorted) in
    let room : length c.in-Entries.field-1.keys.items ≡ g.row.N = search rules in
    rw (← c.self.view_is, c.in-Entries.is) (full-node c.in-Entries.size c.in-Entries.field-1 found c.in-Err.is room c.if-count.true _ _)

pub returns-clause-answer : goal.returns-clause-answer
returns-clause-answer g c =
    let found = c.search_prefix.ensures (rw (← c.self.view_is, c.in-Entries.is) at c.requires.sorted) in
    rw (← c.self.view_is, c.in-Entries.is) (elim c.match-search_prefix.branch [
      | in-Ok w ↦ w.result-is ∙ replaced-answer c.in-Entries.size c.in-Entries.field-1 found w.in-Ok.is w.at-old.ensures
      | in-Err+else-count w ↦ w.result-is ∙ new-answer c.in-Entries.size c.in-Entries.field-1 found w.in-Err.is w.if-count.false
    ])

pub returns-clause-node : goal.returns-clause-node
returns-clause-node g c =
    let found = c.search_prefix.ensures (rw (← c.self.view_is, c.in-Entries.is) at c.requires.sorted) in
    rw (← c.self.view_is, c.in-Entries.is) (elim c.match-search_prefix.branch [
      | in-Ok w ↦ rw w.self-inside-is (replaced-node c.in-Entries.size c.in-Entries.field-1 found w.in-Ok.is _ _ _ w.set.ensures)
      | in-Err+else-count w ↦ rw w.self-inside-is
          (new-node c.in-Entries.size c.in-Entries.field-1 found w.in-Err.is w.if-count.false _ _ _ _ w.insert.ensures w.insert-in-Err.ensures)
    ])
