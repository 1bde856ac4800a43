use Rattle.std.proofs.Common.{◌≡◌, ◌<◌, Some, slice_get, take, refl, ap, ◌∙◌, arith}
use Rattle.std.proofs.Math.Seq.{take-set-lt}
use Rattle.std.proofs.lemmas.List.{length-take}
use Rattle.bforest_nodes.specs.Content.{Leaf}
use Rattle.bforest_nodes.proofs.Prefixes.{get_front}
use Rattle.bforest_nodes.proofs.States.{entries_of_leaf}
use Rattle.bforest_nodes.proofs.node.NodeData.value_mut.Goals as goal

pub unreachable-requires : goal.unreachable-requires
unreachable-requires g c = entries_of_leaf c.self.inside.state c.in_default.not-Entries (rw (← c.self.view_is) at c.requires.leaf)

pub returns : goal.returns
returns g c =
    let e = c.in-Entries.entries in
    let keys = e.keys.items in
    let vals = e.vals.items in
    let within = rw (← c.self.view_is, c.in-Entries.is) at c.requires.within in
    let count = length-take c.in-Entries.field-0 keys in
    let below : c.args.index < c.in-Entries.field-0 = omega arith in
    let read : slice_get vals c.args.index ≡ Some c.at_mut.result.now = rw c.in-Entries.is at c.at_mut.ensures.value in (
      (refl, λ w. rw (← c.self.view_is, c.in-Entries.is) (ap (Leaf (take c.in-Entries.field-0 keys)) (take-set-lt c.in-Entries.field-0 vals c.args.index w below))),
      record { writes_back = tt; value = rw (← c.self.view_is, c.in-Entries.is) (get_front c.in-Entries.field-0 vals c.args.index below ∙ read) },
    )
