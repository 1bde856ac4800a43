use Rattle.std.proofs.Common.{arith, rules}
use Rattle.bforest_nodes.proofs.Cuts.{IsCut-entries}
use Rattle.bforest_nodes.proofs.States.{entries_most, entries_of_leaf, full_entries}
use Rattle.bforest_nodes.proofs.node.NodeData.split_leaf.Goals as goal

pub unreachable-requires : goal.unreachable-requires
unreachable-requires g c = entries_of_leaf c.self.inside.state c.in_default.not-Entries (rw (← c.self.view_is) at c.requires.leaf)

pub returns-clause-cut : goal.returns-clause-cut
returns-clause-cut g c = rw (← c.self.view_is, c.in-Entries.is) (IsCut-entries _ _ _ _ _ _ _ c.left_half_of-half.ensures.within c.at.ensures c.tail.ensures c.tail-in-Entries.ensures)

pub left_half_of-half-requires : goal.left_half_of-half-requires
left_half_of-half-requires g c = rw (full_entries _ _ _ _ c.self.view_is c.in-Entries.is c.self.invariant.1 c.requires.full) c.self.invariant.0

pub returns-clause-left_entries : goal.returns-clause-left_entries
returns-clause-left_entries g c = search (rules, full_entries _ _ _ _ c.self.view_is c.in-Entries.is c.self.invariant.1 c.requires.full)

pub returns-clause-all_entries : goal.returns-clause-all_entries
returns-clause-all_entries g c = search (rules, full_entries _ _ _ _ c.self.view_is c.in-Entries.is c.self.invariant.1 c.requires.full)

pub returns-clause-some : goal.returns-clause-some
returns-clause-some g c = c.left_half_of-half.ensures.some

pub tail-requires : goal.tail-requires
tail-requires g c = (search rules, (entries_most c.self.inside.state c.in-Entries.size c.in-Entries.field-1 c.in-Entries.is c.self.invariant.1, omega (arith, c.left_half_of-half.ensures.within)))

pub tail-requires-in-Entries : goal.tail-requires-in-Entries
tail-requires-in-Entries g c = (search rules, (entries_most c.self.inside.state c.in-Entries.size c.in-Entries.field-1 c.in-Entries.is c.self.invariant.1, omega (arith, c.left_half_of-half.ensures.within)))

pub at-requires : goal.at-requires
at-requires g c = (search rules, (entries_most c.self.inside.state c.in-Entries.size c.in-Entries.field-1 c.in-Entries.is c.self.invariant.1, c.left_half_of-half.ensures.within))

pub overflow_sub-rhs : goal.overflow_sub-rhs
overflow_sub-rhs g c = omega (arith, c.left_half_of-half.ensures.within)

pub overflow_sub-result : goal.overflow_sub-result
overflow_sub-result g c = omega (arith, c.left_half_of-half.ensures.within)
