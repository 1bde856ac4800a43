use Rattle.std.proofs.Common.{ap, arith, rules, sym, ◌∙◌}
use Rattle.bforest_nodes.specs.Content.{entry_count}
use Rattle.bforest_nodes.proofs.node.NodeData.entries.Goals as goal

pub unwrap_inner-requires : goal.unwrap_inner-requires
unwrap_inner-requires g c = (search rules, rw (← c.self.view_is, c.in-Branch.is) tt)

pub unwrap_leaf-requires : goal.unwrap_leaf-requires
unwrap_leaf-requires g c = (search rules, rw (← c.self.view_is, c.in-Entries.is) tt)

pub unreachable-requires : goal.unreachable-requires
unreachable-requires g c = c.requires.used (rw (← c.self.view_is, c.in-Vacant.is) tt)

pub returns-in-Branch-clause-value : goal.returns-in-Branch-clause-value
returns-in-Branch-clause-value g c = sym (ap entry_count c.unwrap_inner.ensures.value)

pub returns-in-Branch-clause-shape : goal.returns-in-Branch-clause-shape
returns-in-Branch-clause-shape g c = c.unwrap_inner.ensures.shape

pub returns-in-Branch-clause-most : goal.returns-in-Branch-clause-most
returns-in-Branch-clause-most g c =
    let shape = rw c.unwrap_inner.ensures.value at c.unwrap_inner.ensures.shape in
    omega (arith, shape.1)

pub returns-in-Entries-clause-value : goal.returns-in-Entries-clause-value
returns-in-Entries-clause-value g c =
    let shape = rw c.unwrap_leaf.ensures.value at c.unwrap_leaf.ensures.shape in
    sym shape.0 ∙ sym (ap entry_count c.unwrap_leaf.ensures.value)

pub returns-in-Entries-clause-shape : goal.returns-in-Entries-clause-shape
returns-in-Entries-clause-shape g c = c.unwrap_leaf.ensures.shape

pub returns-in-Entries-clause-most : goal.returns-in-Entries-clause-most
returns-in-Entries-clause-most g c =
    let shape = rw c.unwrap_leaf.ensures.value at c.unwrap_leaf.ensures.shape in
    omega (arith, shape.0, shape.1, c.self.invariant.0.most)
