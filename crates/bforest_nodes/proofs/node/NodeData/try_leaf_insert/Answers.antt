use Rattle.std.proofs.Common.{arith, refl, rules, ◌≡◌, length}
use Rattle.std.proofs.lemmas.Bool.{false≢true}
use Rattle.bforest_nodes.proofs.States.{entries_full, entries_of_leaf, entries_room, entries_upto}
use Rattle.bforest_nodes.proofs.node.NodeData.try_leaf_insert.Goals as goal

pub unreachable-requires : goal.unreachable-requires
unreachable-requires g c = entries_of_leaf c.self.inside.state c.in_default.not-Entries (rw (← c.self.view_is) at c.requires.leaf)

pub insert-requires : goal.insert-requires
insert-requires g c =
    let upto = entries_upto c.self.inside.state c.in-Entries.size c.in-Entries.field-1 c.args.self.now c.args.index c.self.view_is c.in-Entries.is c.requires.within in
    (search rules, (omega (arith, c.if-len.false), upto))

pub insert-requires-in-Entries : goal.insert-requires-in-Entries
insert-requires-in-Entries g c =
    let upto = entries_upto c.self.inside.state c.in-Entries.size c.in-Entries.field-1 c.args.self.now c.args.index c.self.view_is c.in-Entries.is c.requires.within in
    (search rules, (omega (arith, c.if-len.false), omega (arith, upto)))

pub returns-then-len-clause-room : goal.returns-then-len-clause-room
returns-then-len-clause-room g c =
    let room : length c.in-Entries.field-1.keys.items ≡ g.row.N = search rules in
    (λ yes. absurd (false≢true yes), λ few. absurd (entries_full c.self.inside.state c.in-Entries.size c.in-Entries.field-1 c.args.self.now c.self.view_is c.in-Entries.is room c.if-len.true few))

pub returns-clause-room : goal.returns-clause-room
returns-clause-room g c =
    (λ _. entries_room c.self.inside.state c.in-Entries.size c.in-Entries.field-1 c.args.self.now c.self.view_is c.in-Entries.is (omega (arith, c.if-len.false)), λ _. refl)

pub returns-clause-node : goal.returns-clause-node
returns-clause-node g c = rw (← c.self.view_is, c.in-Entries.is, c.insert.ensures, c.insert-in-Entries.ensures)
