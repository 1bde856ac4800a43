use Rattle.std.proofs.Common.{◌≡◌, ◌≤◌, length, take, refl, sym, ap, ◌∙◌, arith, rules}
use Rattle.std.proofs.lemmas.List.{length-take-le}
use Rattle.bforest_nodes.specs.Content.{Leaf}
use Rattle.bforest_nodes.proofs.Prefixes.{over_front}
use Rattle.bforest_nodes.proofs.States.{entries_of_leaf}
use Rattle.bforest_nodes.proofs.node.NodeData.unwrap_leaf_mut.Goals as goal

pub unreachable-requires : goal.unreachable-requires
unreachable-requires g c = entries_of_leaf c.self.inside.state c.in_default.not-Entries (rw (← c.self.view_is) at c.requires)

pub returns : goal.returns
returns g c =
    let e = c.in-Entries.entries in
    let keys = e.keys.items in
    let vals = e.vals.items in
    let size = c.in-Entries.field-0 in
    let fits = (rw c.in-Entries.is at c.self.invariant).1 in
    let keys_room : size ≤ length keys = search rules in
    let vals_room : size ≤ length vals = search rules in
    let keys_count = length-take-le size keys keys_room in
    let vals_count = length-take-le size vals vals_room in
    let len : c.entries-len.result ≡ size = (rw c.in-Entries.is at c.entries-len.ensures.value) ∙ keys_count in
    let keys_read : c.parts_mut.result.0.now ≡ take size keys = (rw c.in-Entries.is at c.parts_mut.ensures.keys) ∙ ap (λ n. take n keys) len in
    let vals_read : c.parts_mut.result.1.now ≡ take size vals = (rw c.in-Entries.is at c.parts_mut.ensures.vals) ∙ ap (λ n. take n vals) len in (
      (refl, λ w. rw (← c.self.view_is, c.in-Entries.is) (ap (Leaf (take size keys)) (over_front size vals w vals_room))),
      record {
        writes_back = tt;
        value = rw (← c.self.view_is, c.in-Entries.is) (λ i. Leaf (sym keys_read i) (sym vals_read i));
        shape = rw (← c.self.view_is, c.in-Entries.is) (keys_count ∙ sym vals_count, omega arith);
      },
    )
