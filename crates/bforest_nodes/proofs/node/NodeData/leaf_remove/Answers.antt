use Rattle.std.proofs.Common.{◌≡◌, arith, length, rules, take}
use Rattle.bforest_nodes.proofs.States.{entries_most, entries_of_leaf, entries_within}
use Rattle.bforest_nodes.proofs.node.NodeData.leaf_remove.Goals as goal

pub unreachable-requires : goal.unreachable-requires
unreachable-requires g c = entries_of_leaf c.self.inside.state c.in_default.not-Entries (rw (← c.self.view_is) at c.requires.leaf)

pub returns-clause-answer : goal.returns-clause-answer
returns-clause-answer g c =
    let count : length (take c.in-Entries.size c.in-Entries.field-1.keys.items) ≡ c.in-Entries.size = search rules in
    rw (← c.self.view_is, c.in-Entries.is, count) c.answer_of.ensures

pub returns-clause-node : goal.returns-clause-node
returns-clause-node g c = rw (← c.self.view_is, c.in-Entries.is, c.remove.ensures, c.remove-in-Entries.ensures)

pub remove-requires : goal.remove-requires
remove-requires g c =
    let within = entries_within c.self.inside.state c.in-Entries.size c.in-Entries.field-1 c.args.self.now c.args.index c.self.view_is c.in-Entries.is c.requires.within in
    (search rules, (entries_most c.self.inside.state c.in-Entries.size c.in-Entries.field-1 c.in-Entries.is c.self.invariant.1, omega (arith, within)))

pub remove-requires-in-Entries : goal.remove-requires-in-Entries
remove-requires-in-Entries g c =
    let within = entries_within c.self.inside.state c.in-Entries.size c.in-Entries.field-1 c.args.self.now c.args.index c.self.view_is c.in-Entries.is c.requires.within in
    (search rules, (entries_most c.self.inside.state c.in-Entries.size c.in-Entries.field-1 c.in-Entries.is c.self.invariant.1, omega (arith, within)))

pub overflow_sub-size : goal.overflow_sub-size
overflow_sub-size g c =
    let within = entries_within c.self.inside.state c.in-Entries.size c.in-Entries.field-1 c.args.self.now c.args.index c.self.view_is c.in-Entries.is c.requires.within in
    omega (arith, within)
