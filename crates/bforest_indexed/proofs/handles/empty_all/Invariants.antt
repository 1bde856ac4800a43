use Rattle.bforest_indexed.proofs.handles.empty_all.Given as goal
use Rattle.bforest_indexed.specs.Handles.{Adds}
use Rattle.std.proofs.Common.{[], ◌≡◌, ◌≤◌}
use Rattle.std.specs.Vec.{vec_capacity, vec_len}

abbrev pub invariant-loop : goal.invariant-loop
invariant-loop g l = Adds g.H.Default.is_default [] l.counter l.handles.items × (vec_len l.handles ≡ l.counter) × (l.count ≤ vec_capacity l.handles) × (vec_capacity l.handles ≡ vec_capacity l.fn.handles)
