use Rattle.std.proofs.Common.{arith, rules, ◌≡◌, ◌+◌, length, take}
use Rattle.bforest_nodes.proofs.Cuts.{Balances-one_inner}
use Rattle.bforest_nodes.proofs.Shares.{pushes, one_keys, one_tree, from_keys, parts, keys_moved, tree_moved, last_within, inner_shares}
use Rattle.bforest_nodes.proofs.States.{branch_of_inner, few_children, right_most}
use Rattle.bforest_nodes.specs.Content.{Inner}
use Rattle.bforest_nodes.proofs.node.NodeData.balance_inner.Goals as goal
use Rattle.bforest_nodes.proofs.node.NodeData.balance_inner.Goals.{in_default-via-in-Branch+in_default, in_default-via-in_default}

pub returns : goal.returns
returns g c =
    let b = c.in-Branch-Branch in
    let len : length c.in-Branch-Branch.tree.items ≡ 8 = search rules in
    let few = few_children c.self.inside.state c.in-Branch-Branch.size c.in-Branch-Branch.keys c.in-Branch-Branch.tree c.args.self.now c.self.view_is c.in-Branch-Branch.is-0 c.self.invariant.1 len c.requires.half_full in
    let most = right_most c.rhs.inside.state c.in-Branch-Branch.right_size c.in-Branch-Branch.right_keys c.in-Branch-Branch.right_tree c.in-Branch-Branch.is-1 c.rhs.invariant.1 in
    let keys_room : length c.in-Branch-Branch.keys.items ≡ 7 = search rules in
    let right_room : length c.in-Branch-Branch.right_keys.items ≡ 7 = search rules in
    let right_tree_room : length c.in-Branch-Branch.right_tree.items ≡ 8 = search rules in
    rw (← c.self.view_is, ← c.rhs.view_is, b.is-0, b.is-1)
    (inner_shares c.in-Branch-Branch.size c.in-Branch-Branch.right_size most c.div_ceil.result c.div_ceil.ensures
    c.if-len-right_len-le-INNER_SIZE.false few b.keys.items c.push.new.self.items c.append.new.self.items b.right_keys.items
    c.remove_front.new.self.items b.tree.items c.append-in-Branch-Branch.new.self.items b.right_tree.items
    c.remove_front-in-Branch-Branch.new.self.items c.args.crit_key
    keys_room len right_room right_tree_room g.row.N c.at.result c.push.ensures c.append.ensures c.append-in-Branch-Branch.ensures c.remove_front.ensures c.remove_front-in-Branch-Branch.ensures c.at.ensures)

pub unreachable-requires : goal.unreachable-requires
unreachable-requires g c = elim c.in_default.branch [
  | in_default-via-in-Branch+in_default w ↦ branch_of_inner c.rhs.inside.state w.in_default.not-Branch-1 (rw (← c.rhs.view_is) at c.requires.rhs_inner)
  | in_default-via-in_default w ↦ branch_of_inner c.self.inside.state w.in_default.not-Branch-0 (rw (← c.self.view_is) at c.requires.inner)
]

pub returns-then-len-right_len-le-INNER_SIZE : goal.returns-then-len-right_len-le-INNER_SIZE
returns-then-len-right_len-le-INNER_SIZE g c =
    let b = c.in-Branch-Branch in
    rw (← c.self.view_is, ← c.rhs.view_is, b.is-0, b.is-1)
    (Balances-one_inner g.row.N b.size b.right_size b.keys.items c.push.new.self.items b.right_keys.items c.put_before.new.self.items b.tree.items b.right_tree.items c.put_before-then-len-right_len-le-INNER_SIZE.new.self.items c.args.crit_key
    (Inner (take b.size c.push.new.self.items) (take (b.size + 1) b.tree.items)) c.if-len-right_len-le-INNER_SIZE.true c.push.ensures c.put_before.ensures c.put_before-then-len-right_len-le-INNER_SIZE.ensures)

pub push-requires : goal.push-requires
push-requires g c =
    let len : length c.in-Branch-Branch.tree.items ≡ 8 = search rules in
    let few = few_children c.self.inside.state c.in-Branch-Branch.size c.in-Branch-Branch.keys c.in-Branch-Branch.tree c.args.self.now c.self.view_is c.in-Branch-Branch.is-0 c.self.invariant.1 len c.requires.half_full in
    (search rules, pushes few)

pub put_before-requires : goal.put_before-requires
put_before-requires g c =
    (search rules, one_keys c.in-Branch-Branch.size c.in-Branch-Branch.right_size c.if-len-right_len-le-INNER_SIZE.true)

pub put_before-requires-then-len-right_len-le-INNER_SIZE : goal.put_before-requires-then-len-right_len-le-INNER_SIZE
put_before-requires-then-len-right_len-le-INNER_SIZE g c =
    (omega arith, one_tree c.in-Branch-Branch.size c.in-Branch-Branch.right_size c.if-len-right_len-le-INNER_SIZE.true)

pub overflow_sub-moved : goal.overflow_sub-moved
overflow_sub-moved g c =
    let len : length c.in-Branch-Branch.tree.items ≡ 8 = search rules in
    let few = few_children c.self.inside.state c.in-Branch-Branch.size c.in-Branch-Branch.keys c.in-Branch-Branch.tree c.args.self.now c.self.view_is c.in-Branch-Branch.is-0 c.self.invariant.1 len c.requires.half_full in
    let most = right_most c.rhs.inside.state c.in-Branch-Branch.right_size c.in-Branch-Branch.right_keys c.in-Branch-Branch.right_tree c.in-Branch-Branch.is-1 c.rhs.invariant.1 in
    parts c.in-Branch-Branch.size c.in-Branch-Branch.right_size most c.div_ceil.result c.div_ceil.ensures c.if-len-right_len-le-INNER_SIZE.false few

pub append-requires : goal.append-requires
append-requires g c =
    let len : length c.in-Branch-Branch.tree.items ≡ 8 = search rules in
    let few = few_children c.self.inside.state c.in-Branch-Branch.size c.in-Branch-Branch.keys c.in-Branch-Branch.tree c.args.self.now c.self.view_is c.in-Branch-Branch.is-0 c.self.invariant.1 len c.requires.half_full in
    let most = right_most c.rhs.inside.state c.in-Branch-Branch.right_size c.in-Branch-Branch.right_keys c.in-Branch-Branch.right_tree c.in-Branch-Branch.is-1 c.rhs.invariant.1 in
    let d = keys_moved c.in-Branch-Branch.size c.in-Branch-Branch.right_size most c.div_ceil.result c.div_ceil.ensures c.if-len-right_len-le-INNER_SIZE.false few in
    (search rules, (d.fits, (d.from_fits, d.within)))

pub append-requires-in-Branch-Branch : goal.append-requires-in-Branch-Branch
append-requires-in-Branch-Branch g c =
    let most = right_most c.rhs.inside.state c.in-Branch-Branch.right_size c.in-Branch-Branch.right_keys c.in-Branch-Branch.right_tree c.in-Branch-Branch.is-1 c.rhs.invariant.1 in
    let small = right_most c.self.inside.state c.in-Branch-Branch.size c.in-Branch-Branch.keys c.in-Branch-Branch.tree c.in-Branch-Branch.is-0 c.self.invariant.1 in
    let d = tree_moved c.in-Branch-Branch.size c.in-Branch-Branch.right_size most c.div_ceil.result c.div_ceil.ensures c.if-len-right_len-le-INNER_SIZE.false small in
    (omega arith, (d.fits, (d.from_fits, d.within)))

pub remove_front-requires : goal.remove_front-requires
remove_front-requires g c =
    let most = right_most c.rhs.inside.state c.in-Branch-Branch.right_size c.in-Branch-Branch.right_keys c.in-Branch-Branch.right_tree c.in-Branch-Branch.is-1 c.rhs.invariant.1 in
    (search rules, (most, from_keys c.in-Branch-Branch.size c.in-Branch-Branch.right_size most c.div_ceil.result c.div_ceil.ensures c.if-len-right_len-le-INNER_SIZE.false))

pub remove_front-requires-in-Branch-Branch : goal.remove_front-requires-in-Branch-Branch
remove_front-requires-in-Branch-Branch g c =
    let most = right_most c.rhs.inside.state c.in-Branch-Branch.right_size c.in-Branch-Branch.right_keys c.in-Branch-Branch.right_tree c.in-Branch-Branch.is-1 c.rhs.invariant.1 in
    let small = right_most c.self.inside.state c.in-Branch-Branch.size c.in-Branch-Branch.keys c.in-Branch-Branch.tree c.in-Branch-Branch.is-0 c.self.invariant.1 in
    let d = tree_moved c.in-Branch-Branch.size c.in-Branch-Branch.right_size most c.div_ceil.result c.div_ceil.ensures c.if-len-right_len-le-INNER_SIZE.false small in
    (omega arith, (d.from_fits, d.within))

pub at-requires : goal.at-requires
at-requires g c =
    let len : length c.in-Branch-Branch.tree.items ≡ 8 = search rules in
    let few = few_children c.self.inside.state c.in-Branch-Branch.size c.in-Branch-Branch.keys c.in-Branch-Branch.tree c.args.self.now c.self.view_is c.in-Branch-Branch.is-0 c.self.invariant.1 len c.requires.half_full in
    let most = right_most c.rhs.inside.state c.in-Branch-Branch.right_size c.in-Branch-Branch.right_keys c.in-Branch-Branch.right_tree c.in-Branch-Branch.is-1 c.rhs.invariant.1 in
    let d = keys_moved c.in-Branch-Branch.size c.in-Branch-Branch.right_size most c.div_ceil.result c.div_ceil.ensures c.if-len-right_len-le-INNER_SIZE.false few in
    (search rules, (d.fits, last_within c.in-Branch-Branch.size c.in-Branch-Branch.right_size most c.div_ceil.result c.div_ceil.ensures c.if-len-right_len-le-INNER_SIZE.false))
