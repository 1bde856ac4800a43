use Rattle.bforest_core.proofs.{Words.{rules, arith, sym}}
use Rattle.bforest_core.proofs.{insertion.{HalvingNode.{need_top, needs_one, site}, Nodes.{full_needs, not_free, over, room_needs, slot_within}}}
use Rattle.bforest_core.proofs.path.Path.+needed_above.Goals as goal

pub node-requires : goal.node-requires
node-requires g t c =
    (search rules, omega (arith, slot_within (site c.requires.pending (omega arith) g.row.N c.requires.pending.x) c.index-self-up.result (omega arith)))

pub is_full-requires : goal.is_full-requires
is_full-requires g t c = (search rules, not_free (site c.requires.pending (omega arith) g.row.N c.requires.pending.x) _ (omega arith) c.node.ensures.value)

pub needed_above-requires : goal.needed_above-requires
needed_above-requires g t c κs within = let above = over (site c.requires.pending (omega arith) g.row.N c.requires.pending.x) 0 (omega arith) in
    (omega arith, (within.0, (within.1, ((λ a m. search rules), (search rules, (search rules, (c.requires.height, above)))))))

pub returns-then-is_full : goal.returns-then-is_full
returns-then-is_full g t c = record {
  value = λ w. omega (
    arith,
    full_needs (site w (omega arith) g.row.N w.x) _ (omega arith) c.node.ensures.value c.is_full.ensures.full c.if-is_full.true c.needed_above.ensures.value,
    needs_one w (omega arith) g.row.N,
  );
  few = omega arith;
}

pub returns-else-is_full : goal.returns-else-is_full
returns-else-is_full g t c = record {
  value = λ w. (let none = room_needs (site w (omega arith) g.row.N w.x) _ (omega arith) c.node.ensures.value c.is_full.ensures.full c.if-is_full.false in
      omega (arith, none, needs_one w (omega arith) g.row.N));
  few = omega arith;
}

pub returns-then-up-self : goal.returns-then-up-self
returns-then-up-self g t c = record { value = λ w. sym (need_top _ _ (omega arith)); few = omega arith }
