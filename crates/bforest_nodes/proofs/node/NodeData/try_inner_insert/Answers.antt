use Rattle.std.proofs.Common.{arith, refl, rules, ◌≡◌, length}
use Rattle.std.proofs.lemmas.Bool.{false≢true}
use Rattle.bforest_nodes.proofs.States.{branch_full, branch_of_inner, branch_room, keys_upto}
use Rattle.bforest_nodes.proofs.node.NodeData.try_inner_insert.Goals as goal

pub unreachable-requires : goal.unreachable-requires
unreachable-requires g c = branch_of_inner c.self.inside.state c.in_default.not-Branch (rw (← c.self.view_is) at c.requires.inner)

pub insert-requires : goal.insert-requires
insert-requires g c =
    (search rules, (c.if-len.false, keys_upto c.self.inside.state c.in-Branch.size c.in-Branch.keys c.in-Branch.tree c.args.self.now c.args.index c.self.view_is c.in-Branch.is c.requires.within))

pub insert-requires-in-Branch : goal.insert-requires-in-Branch
insert-requires-in-Branch g c =
    let upto = keys_upto c.self.inside.state c.in-Branch.size c.in-Branch.keys c.in-Branch.tree c.args.self.now c.args.index c.self.view_is c.in-Branch.is c.requires.within in
    (omega arith, (omega (arith, c.if-len.false), omega (arith, upto)))

pub returns-clause-room : goal.returns-clause-room
returns-clause-room g c =
    (λ _. branch_room c.self.inside.state c.in-Branch.size c.in-Branch.keys c.in-Branch.tree c.args.self.now c.self.view_is c.in-Branch.is c.if-len.false, λ _. refl)

pub returns-then-len-clause-room : goal.returns-then-len-clause-room
returns-then-len-clause-room g c =
    let room : length c.in-Branch.tree.items ≡ 8 = search rules in
    (λ yes. absurd (false≢true yes), λ few. absurd (branch_full c.self.inside.state c.in-Branch.size c.in-Branch.keys c.in-Branch.tree c.args.self.now c.self.view_is c.in-Branch.is room c.if-len.true few))

pub returns-clause-node : goal.returns-clause-node
returns-clause-node g c = rw (← c.self.view_is, c.in-Branch.is, c.insert.ensures, c.insert-in-Branch.ensures)
