use Rattle.std.proofs.Common.{arith, rules}
use Rattle.bforest_nodes.proofs.States.{entries_of_leaf, entries_within, entries_most}
use Rattle.bforest_nodes.proofs.node.NodeData.set_key.Goals as goal

pub unreachable-requires : goal.unreachable-requires
unreachable-requires g c = entries_of_leaf c.self.inside.state c.in_default.not-Entries (rw (← c.self.view_is) at c.requires.leaf)

pub set-requires : goal.set-requires
set-requires g c =
    let within = entries_within c.self.inside.state c.in-Entries.size c.in-Entries.entries c.args.self.now c.args.index c.self.view_is c.in-Entries.is c.requires.within in
    (search rules, (entries_most c.self.inside.state c.in-Entries.size c.in-Entries.entries c.in-Entries.is c.self.invariant.1, omega (arith, within)))

pub returns : goal.returns
returns g c = record { node = rw (← c.self.view_is, c.in-Entries.is, c.set.ensures) }
