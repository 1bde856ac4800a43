use Rattle.std.proofs.Common.{arith, rules, ◌≡◌, length, take}
use Rattle.bforest_nodes.specs.Content.{Leaf}
use Rattle.bforest_nodes.proofs.Cuts.{Balances-one_leaf}
use Rattle.bforest_nodes.proofs.Shares.{leaf_moved, leaf_parts, leaf_rest, leaf_shares, leaf_some}
use Rattle.bforest_nodes.proofs.States.{entries_most, entries_of_leaf, under_half}
use Rattle.bforest_nodes.proofs.node.NodeData.balance_leaf.Goals as goal
use Rattle.bforest_nodes.proofs.node.NodeData.balance_leaf.Goals.{in_default-via-in-Entries+in_default, in_default-via-in_default}

pub returns : goal.returns
returns g c = λ crit_key.
    let small = entries_most _ _ _ c.in-Entries-Entries.is-0 c.self.invariant.1 in
    let most = entries_most _ _ _ c.in-Entries-Entries.is-1 c.rhs.invariant.1 in
    let room : length c.in-Entries-Entries.field-1-0.keys.items ≡ g.row.N = search rules in
    let under = under_half _ _ _ _ c.self.view_is c.in-Entries-Entries.is-0 c.self.invariant.1 room c.requires.half_full in
    let vals_room : length c.in-Entries-Entries.field-1-0.vals.items ≡ g.row.N = search rules in
    let right_room : length c.in-Entries-Entries.field-1-1.keys.items ≡ g.row.N = search rules in
    let right_vals_room : length c.in-Entries-Entries.field-1-1.vals.items ≡ g.row.N = search rules in
    rw (← c.self.view_is, ← c.rhs.view_is, c.in-Entries-Entries.is-0, c.in-Entries-Entries.is-1)
    (leaf_shares g.row.N c.in-Entries-Entries.size c.in-Entries-Entries.right_size c.div_ceil.result c.div_ceil.ensures small
    most c.if-len-right_len.false c.in-Entries-Entries.field-1-0.keys.items c.append.new.self.items
    c.in-Entries-Entries.field-1-1.keys.items c.remove_front.new.self.items c.in-Entries-Entries.field-1-0.vals.items
    c.append-in-Entries-Entries.new.self.items c.in-Entries-Entries.field-1-1.vals.items
    c.remove_front-in-Entries-Entries.new.self.items crit_key c.at.result
    room vals_room right_room right_vals_room under c.append.ensures c.append-in-Entries-Entries.ensures c.remove_front.ensures c.remove_front-in-Entries-Entries.ensures c.at.ensures)

pub unreachable-requires : goal.unreachable-requires
unreachable-requires g c = elim c.in_default.branch [
  | in_default-via-in-Entries+in_default w ↦ entries_of_leaf c.rhs.inside.state w.in_default.not-Entries-1 (rw (← c.rhs.view_is) at c.requires.rhs_leaf)
  | in_default-via-in_default w ↦ entries_of_leaf c.self.inside.state w.in_default.not-Entries-0 (rw (← c.self.view_is) at c.requires.leaf)
]

pub returns-then-len-right_len : goal.returns-then-len-right_len
returns-then-len-right_len g c = λ crit_key.
    let b = c.in-Entries-Entries in
    rw (← c.self.view_is, ← c.rhs.view_is, b.is-0, b.is-1)
    (Balances-one_leaf g.row.N c.in-Entries-Entries.size c.in-Entries-Entries.right_size
    c.in-Entries-Entries.field-1-0.keys.items c.in-Entries-Entries.field-1-1.keys.items c.put_before.new.self.items
    c.in-Entries-Entries.field-1-0.vals.items c.in-Entries-Entries.field-1-1.vals.items c.put_before-then-len-right_len.new.self.items
    crit_key
    (Leaf (take c.in-Entries-Entries.size c.in-Entries-Entries.field-1-0.keys.items) (take c.in-Entries-Entries.size c.in-Entries-Entries.field-1-0.vals.items)) c.if-len-right_len.true c.put_before.ensures c.put_before-then-len-right_len.ensures)

pub put_before-requires : goal.put_before-requires
put_before-requires g c = (search rules, c.if-len-right_len.true)

pub put_before-requires-then-len-right_len : goal.put_before-requires-then-len-right_len
put_before-requires-then-len-right_len g c = (search rules, omega (arith, c.if-len-right_len.true))

pub overflow_sub-moved : goal.overflow_sub-moved
overflow_sub-moved g c =
    let small = entries_most _ _ _ c.in-Entries-Entries.is-0 c.self.invariant.1 in
    let most = entries_most _ _ _ c.in-Entries-Entries.is-1 c.rhs.invariant.1 in
    let room : length c.in-Entries-Entries.field-1-0.keys.items ≡ g.row.N = search rules in
    let under = under_half _ _ _ _ c.self.view_is c.in-Entries-Entries.is-0 c.self.invariant.1 room c.requires.half_full in
    leaf_parts g.row.N c.in-Entries-Entries.size c.in-Entries-Entries.right_size c.div_ceil.result c.div_ceil.ensures small most c.if-len-right_len.false under

pub append-requires : goal.append-requires
append-requires g c =
    let small = entries_most _ _ _ c.in-Entries-Entries.is-0 c.self.invariant.1 in
    let most = entries_most _ _ _ c.in-Entries-Entries.is-1 c.rhs.invariant.1 in
    let d = leaf_moved g.row.N c.in-Entries-Entries.size c.in-Entries-Entries.right_size c.div_ceil.result c.div_ceil.ensures small most c.if-len-right_len.false in
    (search rules, (d.fits, (d.from_fits, d.within)))

pub append-requires-in-Entries-Entries : goal.append-requires-in-Entries-Entries
append-requires-in-Entries-Entries g c =
    let small = entries_most _ _ _ c.in-Entries-Entries.is-0 c.self.invariant.1 in
    let most = entries_most _ _ _ c.in-Entries-Entries.is-1 c.rhs.invariant.1 in
    let d = leaf_moved g.row.N c.in-Entries-Entries.size c.in-Entries-Entries.right_size c.div_ceil.result c.div_ceil.ensures small most c.if-len-right_len.false in
    (search rules, (d.fits, (d.from_fits, d.within)))

pub remove_front-requires : goal.remove_front-requires
remove_front-requires g c =
    let small = entries_most _ _ _ c.in-Entries-Entries.is-0 c.self.invariant.1 in
    let most = entries_most _ _ _ c.in-Entries-Entries.is-1 c.rhs.invariant.1 in
    let d = leaf_moved g.row.N c.in-Entries-Entries.size c.in-Entries-Entries.right_size c.div_ceil.result c.div_ceil.ensures small most c.if-len-right_len.false in
    (search rules, (d.from_fits, d.within))

pub remove_front-requires-in-Entries-Entries : goal.remove_front-requires-in-Entries-Entries
remove_front-requires-in-Entries-Entries g c =
    let small = entries_most _ _ _ c.in-Entries-Entries.is-0 c.self.invariant.1 in
    let most = entries_most _ _ _ c.in-Entries-Entries.is-1 c.rhs.invariant.1 in
    let d = leaf_moved g.row.N c.in-Entries-Entries.size c.in-Entries-Entries.right_size c.div_ceil.result c.div_ceil.ensures small most c.if-len-right_len.false in
    (search rules, (d.from_fits, d.within))

pub at-requires : goal.at-requires
at-requires g c =
    let small = entries_most _ _ _ c.in-Entries-Entries.is-0 c.self.invariant.1 in
    let most = entries_most _ _ _ c.in-Entries-Entries.is-1 c.rhs.invariant.1 in (
      search rules,
      (
        leaf_rest g.row.N c.in-Entries-Entries.size c.in-Entries-Entries.right_size c.div_ceil.result
            c.div_ceil.ensures small most c.if-len-right_len.false,
        leaf_some g.row.N c.in-Entries-Entries.size c.in-Entries-Entries.right_size c.div_ceil.result c.div_ceil.ensures small
            most c.if-len-right_len.false c.self.invariant.0.least,
      ),
    )
