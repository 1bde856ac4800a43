use Rattle.bforest_core.proofs.{Words.{rules, arith, ◌∙◌, ◌≡◌, Some, sym, slice_get, vec_len}, table.Lists.refilled_two, table.Pools.IsPool-set_two}
use Rattle.bforest_core.proofs.table.Stored.{some_same}
use Rattle.bforest_core.proofs.pool.NodePool.balance_nodes.Goals as goal

pub two_nodes-lhs-requires : goal.two_nodes-lhs-requires
two_nodes-lhs-requires g c = record {
  left_within = rw (c.as_mut_slice.ensures.value, c.number.ensures.value) (rw (← c.self.view_is) at c.requires.left.within);
  right_within = rw (c.as_mut_slice.ensures.value, c.number-2.ensures.value) (rw (← c.self.view_is) at c.requires.right.within);
  apart = λ same. c.requires.apart (sym c.number.ensures.value ∙ same ∙ c.number-2.ensures.value);
}

pub balance-requires : goal.balance-requires
balance-requires g c =
    let left : slice_get c.args.self.now.nodes c.args.left ≡ Some c.two_nodes-lhs.result.0.now = rw (← c.self.view_is, ← c.number.ensures.value, ← c.as_mut_slice.ensures.value) c.two_nodes-lhs.ensures.left in
    let right : slice_get c.args.self.now.nodes c.args.right ≡ Some c.two_nodes-lhs.result.1.now = rw (← c.self.view_is, ← c.number-2.ensures.value, ← c.as_mut_slice.ensures.value) c.two_nodes-lhs.ensures.right in
    let w = c.requires.balanceable in let under = some_same (sym w.left_is ∙ left) in let neighbour = some_same (sym w.right_is ∙ right) in
    (search rules, (rw (under, neighbour) at w.kind, (rw under at w.filled, (rw neighbour at w.neighbour_filled, rw under at w.half_full))))

pub invariant_of-self : goal.invariant_of-self
invariant_of-self g c =
    let pair = IsPool-set_two _ _ _ _ c.balance.new.self c.balance.new.rhs c.self.view_is c.number.ensures.value c.number-2.ensures.value c.requires.left.off_chain c.requires.right.off_chain c.self.invariant in
    rw (c.as_mut_slice.ensures.value, refilled_two c.self.inside.nodes.items c.number.result c.number-2.result c.balance.new.self c.balance.new.rhs (vec_len c.self.inside.nodes) (omega arith)) pair.0

pub returns : goal.returns
returns g c =
    let pair = IsPool-set_two _ _ _ _ c.balance.new.self c.balance.new.rhs c.self.view_is c.number.ensures.value c.number-2.ensures.value c.requires.left.off_chain c.requires.right.off_chain c.self.invariant in
    record {
      balanced = record {
        under = c.two_nodes-lhs.result.0.now;
        neighbour = c.two_nodes-lhs.result.1.now;
        left_was = rw (← c.self.view_is, ← c.number.ensures.value, ← c.as_mut_slice.ensures.value) c.two_nodes-lhs.ensures.left;
        right_was = rw (← c.self.view_is, ← c.number-2.ensures.value, ← c.as_mut_slice.ensures.value) c.two_nodes-lhs.ensures.right;
        new_left = c.balance.new.self;
        new_right = c.balance.new.rhs;
        balances = c.balance.ensures.balanced;
        after = rw (c.as_mut_slice.ensures.value, refilled_two c.self.inside.nodes.items c.number.result c.number-2.result c.balance.new.self c.balance.new.rhs (vec_len c.self.inside.nodes) (omega arith), pair.1, ← c.self.view_is, c.number.ensures.value, c.number-2.ensures.value);
      };
    }
