use Rattle.bforest_indexed.proofs.Ahead.{kept-handles, kept-reserved, refused-full, refused-memory, reserved}
use Rattle.bforest_indexed.proofs.maps.Maps.reserve_for.Goals as goal

pub returns-in_err-slots : goal.returns-in_err-slots
returns-in_err-slots g c = rw (← c.self.view_is) (refused-full c.self.invariant _ _ _ c.nodes_for-most.ensures.enough c.nodes_for-most.ensures.met
    _ (rw (← c.self.view_is) at c.node_limit.ensures.limit) (rw (← c.self.view_is) at c.nodes_in_use-used.ensures.within)
    _ _ c.in_err-slots.ensures.full c.from_residual.ensures.1)

pub invariant_of-self : goal.invariant_of-self
invariant_of-self g c = kept-handles _ _ c.reserve_handles.ensures.same c.self.invariant

pub returns-in_err-reserve_handles : goal.returns-in_err-reserve_handles
returns-in_err-reserve_handles g c = rw (← c.self.view_is) (refused-memory c.self.invariant _ _ _ c.nodes_for-most.ensures.enough c.nodes_for-most.ensures.met
    _ (rw (← c.self.view_is) at c.node_limit.ensures.limit) _ c.in_ok-slots.ensures.slots _ c.reserve_handles.ensures.same
    _ _ c.in_err-reserve_handles.ensures.memory c.in_err-reserve_handles.ensures.kept c.from_residual-in_err-reserve_handles.ensures.1)

pub invariant_of-self-2 : goal.invariant_of-self-2
invariant_of-self-2 g c = kept-reserved _ _ _ c.reserve_nodes.ensures c.reserve_handles.ensures.same c.self.invariant

pub returns : goal.returns
returns g c = rw (← c.self.view_is) (reserved c.self.invariant _ _ _ c.nodes_for-most.ensures.enough c.nodes_for-most.ensures.met
    _ (rw (← c.self.view_is) at c.node_limit.ensures.limit) _ c.in_ok-slots.ensures.slots _ c.reserve_handles.ensures.same
    _ _ (rw (← c.self.view_is) at c.nodes_in_use-used.ensures.count) c.saturating_sub.ensures _ _ c.reserve_nodes.ensures c.reserve_handles.ensures.holds c.in_ok-reserve_handles.ensures.enough)
