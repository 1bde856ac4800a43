use Rattle.bforest_core.proofs.Words.{fresh_nodes, front_of_new, ◌≡◌, ◌+◌, ◌≤◌, ◌++◌, vec_len, vec_capacity}
use Rattle.bforest_core.proofs.pool.add_slots.Given as goal

abbrev pub invariant-loop-added : goal.invariant-loop-added
invariant-loop-added g l = record {
  nodes : l.nodes.items ≡ l.initial.nodes.items ++ fresh_nodes (vec_len l.initial.nodes) l._added l.fn.next;
  first : l.first ≡ front_of_new (vec_len l.initial.nodes) l._added l.fn.next;
  len : vec_len l.nodes ≡ vec_len l.initial.nodes + l._added;
  room : vec_len l.initial.nodes + l.count ≤ vec_capacity l.nodes;
  memory : vec_capacity l.nodes ≡ vec_capacity l.initial.nodes;
}
