use Rattle.bforest_core.proofs.{Words.{rules, arith, refl}, insertion.HalvingNode.{d, site}}
use Rattle.bforest_core.proofs.{insertion.Grow.{goes, step_most}, insertion.Nodes.{early_asks, early_halves, full_asks, late_asks, late_halves}}
use Rattle.bforest_core.proofs.{removal.Asked.one_small}
use Rattle.bforest_core.proofs.path.Path.split_here.Goals as goal

pub split_node-right-requires : goal.split_node-right-requires
split_node-right-requires g c = let at = site c.requires.pending c.requires.within g.row.N (c.args.half.key, c.args.half.node) in
    (search rules, full_asks at _ (omega arith) c.args.pool.now c.requires.full c.requires.room)

pub put_child-room-requires : goal.put_child-room-requires
put_child-room-requires g c = let said = c.split_node-right.ensures in
    let at = site c.requires.pending c.requires.within g.row.N (c.args.half.key, c.args.half.node) in
    (search rules, early_asks at _ (omega arith) _ c.requires.full said.node said.used said.split said.capacity c.if-entry-lt-MIN_CHILDREN.true)

pub put_child-room-requires-else-entry-lt-MIN_CHILDREN : goal.put_child-room-requires-else-entry-lt-MIN_CHILDREN
put_child-room-requires-else-entry-lt-MIN_CHILDREN g c = let said = c.split_node-right.ensures in
    let at = site c.requires.pending c.requires.within g.row.N (c.args.half.key, c.args.half.node) in
    (search rules, late_asks at _ (omega arith) _ c.requires.full said.node said.used said.split said.capacity c.if-entry-lt-MIN_CHILDREN.false refl)

pub index_behind-requires-else-entry-lt-MIN_CHILDREN : goal.index_behind-requires-else-entry-lt-MIN_CHILDREN
index_behind-requires-else-entry-lt-MIN_CHILDREN g c = omega (arith, one_small c.requires.pending c.requires.within)

pub returns-then-entry-lt-MIN_CHILDREN-clause-halved : goal.returns-then-entry-lt-MIN_CHILDREN-clause-halved
returns-then-entry-lt-MIN_CHILDREN-clause-halved g c = λ w. let said = c.split_node-right.ensures in
    let at = site w c.requires.within g.row.N (c.args.half.key, c.args.half.node) in (
      _,
      _,
      (d w c.requires.within g.row.N).rows_are,
      early_halves at _ (omega arith) _ c.requires.full said.node said.used said.split said.capacity
          c.if-entry-lt-MIN_CHILDREN.true c.put_child-room.ensures (goes c.args.half.moved (step_most _) (omega arith) c.index_behind.ensures.value),
    )

pub returns-else-entry-lt-MIN_CHILDREN-clause-halved : goal.returns-else-entry-lt-MIN_CHILDREN-clause-halved
returns-else-entry-lt-MIN_CHILDREN-clause-halved g c = λ w. let said = c.split_node-right.ensures in
    let at = site w c.requires.within g.row.N (c.args.half.key, c.args.half.node) in (
      _,
      _,
      (d w c.requires.within g.row.N).rows_are,
      late_halves at _ (omega arith) _ c.requires.full said.node said.used said.split said.capacity
          c.if-entry-lt-MIN_CHILDREN.false _ refl c.put_child-room-else-entry-lt-MIN_CHILDREN.ensures (λ none. absurd (omega arith)) (λ some. refl)
          (goes c.args.half.moved (step_most _) (omega arith) c.index_behind-else-entry-lt-MIN_CHILDREN.ensures.value),
    )
