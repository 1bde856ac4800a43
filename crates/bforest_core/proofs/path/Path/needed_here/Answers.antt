use Rattle.bforest_core.proofs.{Words.{rules, arith, sym}, insertion.{LeafSpot.{one_entry, site}, Nodes.{full_needs, not_free, over, room_needs, slot_within}}}
use Rattle.bforest_core.proofs.path.Path.needed_here.Goals as goal

pub node-requires : goal.node-requires
node-requires g c = (search rules, omega (arith, slot_within (site c.requires.placed.2 (one_entry c.requires.placed.2)) c.index-self-0.result (omega arith)))

pub is_full-requires : goal.is_full-requires
is_full-requires g c = (search rules, not_free (site c.requires.placed.2 (one_entry c.requires.placed.2)) _ (omega arith) c.node.ensures.value)

pub needed_above-requires : goal.needed_above-requires
needed_above-requires g c = (search rules, (search rules, (c.requires.height, over (site c.requires.placed.2 (one_entry c.requires.placed.2)) 0 (omega arith))))

pub returns-then-is_full : goal.returns-then-is_full
returns-then-is_full g c = record {
  value = λ tree place p. full_needs (site p (one_entry p)) _
      (omega arith) c.node.ensures.value c.is_full.ensures.full c.if-is_full.true c.needed_above.ensures.value;
}

pub returns-else-is_full : goal.returns-else-is_full
returns-else-is_full g c = record {
  value = λ tree place p. sym (room_needs (site p (one_entry p)) _ (omega arith) c.node.ensures.value c.is_full.ensures.full c.if-is_full.false);
}
