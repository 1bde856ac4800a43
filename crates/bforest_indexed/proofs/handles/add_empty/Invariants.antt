use Rattle.bforest_indexed.proofs.handles.add_empty.Given as goal
use Rattle.bforest_indexed.specs.Handles.{Adds}
use Rattle.std.proofs.Common.{◌+◌, ◌≡◌, ◌≤◌}
use Rattle.std.specs.Vec.{vec_capacity, vec_len}

abbrev pub invariant-loop : goal.invariant-loop
invariant-loop g l = Adds g.H.Default.is_default l.fn.handles.items l.counter l.handles.items × (vec_len l.handles ≡ vec_len l.fn.handles + l.counter) × (vec_len l.fn.handles + l.more ≤ vec_capacity l.handles)
