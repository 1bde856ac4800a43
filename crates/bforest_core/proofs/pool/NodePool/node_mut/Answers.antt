use Rattle.bforest_core.proofs.{Words.{slice_get_read, ◌≡◌, slice_get, Some, length, refl}, table.Pools.{IsPool-set, used_inside}}
use Rattle.bforest_core.proofs.pool.NodePool.node_mut.Goals as goal

pub invariant_of-self-lent : goal.invariant_of-self-lent
invariant_of-self-lent g c w =
    let used = used_inside c.self.view_is c.number.ensures.value c.requires in (IsPool-set c.number.result w used.off_chain c.self.invariant).0

pub returns : goal.returns
returns g c = let used = used_inside c.self.view_is c.number.ensures.value c.requires in
    let found : slice_get c.args.self.now.nodes c.args.node ≡ Some c.index_mut.result.now = rw (← c.self.view_is, ← c.number.ensures.value)
    (slice_get_read c.self.inside.nodes.items (length c.self.inside.nodes.items) c.number.result c.index_mut.result.now refl used.within
    c.index_mut.ensures.value) in (
      (refl, λ w. rw (← c.self.view_is, (IsPool-set c.number.result w used.off_chain c.self.invariant).1, c.number.ensures.value)),
      record { writes_back = tt; value = found },
    )
