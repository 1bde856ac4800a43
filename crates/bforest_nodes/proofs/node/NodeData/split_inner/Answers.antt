use Rattle.std.proofs.Common.{arith, rules}
use Rattle.bforest_nodes.proofs.Cuts.{IsCut-branch}
use Rattle.bforest_nodes.proofs.States.{branch_of_inner, full_branch}
use Rattle.bforest_nodes.proofs.node.NodeData.split_inner.Goals as goal

pub unreachable-requires : goal.unreachable-requires
unreachable-requires g c = branch_of_inner c.self.inside.state c.in_default.not-Branch (rw (← c.self.view_is) at c.requires.inner)

pub overflow_sub-rhs : goal.overflow_sub-rhs
overflow_sub-rhs g c = omega (arith, full_branch _ _ _ _ _ c.self.view_is c.in-Branch.is c.self.invariant.1 c.requires.full)

pub tail-requires : goal.tail-requires
tail-requires g c = search (rules, full_branch _ _ _ _ _ c.self.view_is c.in-Branch.is c.self.invariant.1 c.requires.full)

pub tail-requires-in-Branch : goal.tail-requires-in-Branch
tail-requires-in-Branch g c = search (rules, full_branch _ _ _ _ _ c.self.view_is c.in-Branch.is c.self.invariant.1 c.requires.full)

pub overflow_sub-result : goal.overflow_sub-result
overflow_sub-result g c = omega (arith, full_branch _ _ _ _ _ c.self.view_is c.in-Branch.is c.self.invariant.1 c.requires.full)

pub at-requires : goal.at-requires
at-requires g c = search (rules, full_branch _ _ _ _ _ c.self.view_is c.in-Branch.is c.self.invariant.1 c.requires.full)

pub returns-clause-right_entries : goal.returns-clause-right_entries
returns-clause-right_entries g c = omega (arith, full_branch _ _ _ _ _ c.self.view_is c.in-Branch.is c.self.invariant.1 c.requires.full)

pub returns-clause-cut : goal.returns-clause-cut
returns-clause-cut g c =
    rw (← c.self.view_is, c.in-Branch.is)
    (IsCut-branch _ _ _ _ _ _ (full_branch _ _ _ _ _ c.self.view_is c.in-Branch.is c.self.invariant.1 c.requires.full) c.at.ensures c.tail.ensures c.tail-in-Branch.ensures)
