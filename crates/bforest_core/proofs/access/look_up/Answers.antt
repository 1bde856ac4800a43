use Rattle.bforest_core.proofs.Words.{rules, ◌≡◌, slice_get_within, IsStrictlySortedBy, Err, IfSome, List, None, Ok, Some, slice_get, IsLeaf, vals_of}
use Rattle.bforest_core.proofs.{Words.{IsIncreasing, place, value_for, search_of, leaf_content}, access.look_up.Given.Over, access.look_up.Goals.After-look_up}
use Rattle.bforest_core.proofs.{walks.LeafSearch.looked, table.Stored.read_as}
use Rattle.bforest_nodes.specs.Content.{keys_of}
use Rattle.bforest_core.proofs.access.look_up.Goals as goal

pub node-requires : goal.node-requires
node-requires g c = (search rules, (search rules, slice_get_within _ _ (leaf_content c.requires.leaf.0) c.requires.leaf.1))

pub look_up-requires : goal.look_up-requires
look_up-requires g c = let w = c.requires.leaf in
    (search rules, read_as w.1 c.node.ensures.value (λ z. IsLeaf z × IsStrictlySortedBy (g.C.Comparator.order c.args.comp.now) (keys_of z)) (tt, w.2))

-- the node's answer is the place and the value of the key in the entries of the slot
told : (g : Over) (c : After-look_up g) (es : List (g.row.K.Denot × g.row.V.Denot)) → slice_get c.args.pool.now.nodes c.args.node ≡ Some (leaf_content es) →
    (c.look_up.result.0 ≡ place (g.C.Comparator.order c.args.comp.now) es c.args.key) × (c.look_up.result.1 ≡ value_for (g.C.Comparator.order c.args.comp.now) es c.args.key)
told g c es slot = let order = g.C.Comparator.order c.args.comp.now in let w = c.requires.leaf in
    let up : IsIncreasing order es = read_as w.1 slot (λ z. IsStrictlySortedBy order (keys_of z)) w.2 in looked order es c.args.key up c.look_up.result.1
    (read_as c.node.ensures.value slot (λ z. IfSome c.look_up.result.1 (λ v. search_of order (keys_of z) c.args.key ≡ Ok c.look_up.result.0)) c.look_up.ensures.found)
    (read_as c.node.ensures.value slot (λ z. IfSome c.look_up.result.1 (λ v. slice_get (vals_of z) c.look_up.result.0 ≡ Some v)) c.look_up.ensures.value)
    (read_as c.node.ensures.value slot (λ z. c.look_up.result.1 ≡ None → search_of order (keys_of z) c.args.key ≡ Err c.look_up.result.0) c.look_up.ensures.absent)

pub returns : goal.returns
returns g c = record { place = λ es slot. (told g c es slot).0; value = λ es slot. (told g c es slot).1; most = search rules }
