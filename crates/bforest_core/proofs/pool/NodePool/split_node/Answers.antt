use Rattle.bforest_core.proofs.Words.{rules, slice_get, Some, arith, refl, ◌∙◌, ◌≡◌, length-set, vec_len, sym}
use Rattle.bforest_core.proofs.{table.Lists.refilled_two, table.Pools.{IsPool-set_two, nodes-without_front, off-without_front, with_front-is, apart_front}}
use Rattle.bforest_core.proofs.pool.NodePool.split_node.Goals as goal

pub split-requires : goal.split-requires
split-requires g c = let was : slice_get c.args.self.now.nodes c.args.left ≡ Some c.two_nodes-rhs.result.1.now = rw (
  ← nodes-without_front c.args.self.now c.args.self.now.chain,
  ← c.take_slot-right.ensures.table,
  ← c.self.view_is,
  ← c.number-2.ensures.value,
  ← c.as_mut_slice.ensures.value,
) c.two_nodes-rhs.ensures.right in let full = rw was at c.requires.full in (search rules, (full.0, full.1))

pub invariant_of-self : goal.invariant_of-self
invariant_of-self g c =
    let off_left = rw (← c.take_slot-right.ensures.table) at (off-without_front c.args.self.now c.args.self.now.chain c.args.left refl c.requires.used.off_chain) in
    let pair = IsPool-set_two _ _ _ _ c.split.new.rhs c.split.new.self c.self.view_is c.number.ensures.value c.number-2.ensures.value c.take_slot-right.ensures.used.off_chain off_left c.self.invariant in
    rw (c.as_mut_slice.ensures.value, refilled_two c.self.inside.nodes.items c.number.result c.number-2.result c.split.new.rhs c.split.new.self (vec_len c.self.inside.nodes) (omega arith)) pair.0

pub returns : goal.returns
returns g c = let refilled = refilled_two c.self.inside.nodes.items c.number.result c.number-2.result c.split.new.rhs c.split.new.self
    (vec_len c.self.inside.nodes) (omega arith) in
    let off_left = rw (← c.take_slot-right.ensures.table) at (off-without_front c.args.self.now c.args.self.now.chain c.args.left refl c.requires.used.off_chain) in
    let pair = IsPool-set_two _ _ _ _ c.split.new.rhs c.split.new.self c.self.view_is c.number.ensures.value c.number-2.ensures.value c.take_slot-right.ensures.used.off_chain off_left c.self.invariant in
    let within = rw (← c.self.view_is) at c.take_slot-right.ensures.used.within in record {
      node = c.take_slot-right.ensures.node;
      split = record {
        whole = c.two_nodes-rhs.result.1.now;
        was = rw (← nodes-without_front c.args.self.now c.args.self.now.chain, ← c.take_slot-right.ensures.table, ← c.self.view_is, ← c.number-2.ensures.value, ← c.as_mut_slice.ensures.value) c.two_nodes-rhs.ensures.right;
        left_half_is = c.split.new.self;
        right_half_is = c.split.new.rhs;
        counted = c.split.ensures.left_entries;
        all = c.split.ensures.all_entries;
        cut = c.split.ensures.cut;
        after = rw (
          with_front-is c.args.self.now c.args.self.now.chain c.split.new.rhs c.take_slot-right.ensures.node,
          ← c.take_slot-right.ensures.table,
          c.as_mut_slice.ensures.value,
          refilled,
          pair.1,
          ← c.self.view_is,
          c.number.ensures.value,
          c.number-2.ensures.value,
        );
      };
      used = rw (c.as_mut_slice.ensures.value, refilled)
          (record { within = rw (length-set, length-set) within; off_chain = rw pair.1 (rw (← c.self.view_is) at c.take_slot-right.ensures.used.off_chain) });
      capacity = c.self.invariant.capacity;
    }

pub two_nodes-rhs-requires : goal.two_nodes-rhs-requires
two_nodes-rhs-requires g c = record {
  apart = λ same. apart_front _ c.take_slot-right.ensures.node c.requires.used.off_chain (sym c.number.ensures.value ∙ same ∙ c.number-2.ensures.value);
  left_within = rw (c.as_mut_slice.ensures.value, c.number.ensures.value) (rw (← c.self.view_is) at c.take_slot-right.ensures.used.within);
  right_within = (let within = rw (← nodes-without_front c.args.self.now c.args.self.now.chain, ← c.take_slot-right.ensures.table, ← c.self.view_is) at c.requires.used.within in
      rw (c.as_mut_slice.ensures.value, c.number-2.ensures.value) within);
}
