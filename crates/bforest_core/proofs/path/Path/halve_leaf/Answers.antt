use Rattle.bforest_core.proofs.Words.{◌-◌, refl, false, rules, arith, ap, get_or}
use Rattle.bforest_core.proofs.insertion.{Grow.{goes, here}, LeafSpot.site}
use Rattle.bforest_core.proofs.insertion.{Nodes.{early_asks, early_halves, full_asks, late_asks, late_halves, late_within, left_count}}
use Rattle.bforest_core.proofs.path.Path.halve_leaf.Goals as goal

pub split_node-right-requires : goal.split_node-right-requires
split_node-right-requires g c =
    (search rules, full_asks (site c.requires.placed.2 (c.args.key, c.args.value)) _ (omega arith) c.args.pool.now c.requires.full c.requires.room)

pub put_entry-room-requires : goal.put_entry-room-requires
put_entry-room-requires g c = let said = c.split_node-right.ensures in let at = site c.requires.placed.2 (c.args.key, c.args.value) in
    (search rules, early_asks at _ (omega arith) _ c.requires.full said.node said.used said.split said.capacity (omega (arith, c.if-index.true)))

pub overflow_sub-behind : goal.overflow_sub-behind
overflow_sub-behind g c = let said = c.split_node-right.ensures in
    late_within (site c.requires.placed.2 (c.args.key, c.args.value)) _
    (omega arith) _ c.requires.full said.node said.used said.split said.capacity c.if-index.false

pub put_entry-room-requires-else-index : goal.put_entry-room-requires-else-index
put_entry-room-requires-else-index g c = let said = c.split_node-right.ensures in let at = site c.requires.placed.2 (c.args.key, c.args.value) in
    let left = left_count at _ (omega arith) _ c.requires.full said.node said.used said.split said.capacity in (
      search rules,
      late_asks at _ (omega arith) _ c.requires.full said.node said.used said.split said.capacity c.if-index.false
          (ap (λ z. get_or c.args.self.now.entry 0 0 - z) left),
    )

pub returns-then-index-clause-halved : goal.returns-then-index-clause-halved
returns-then-index-clause-halved g c = λ tree place p. let said = c.split_node-right.ensures in
    early_halves (site p (c.args.key, c.args.value)) _ (omega arith) _ c.requires.full said.node said.used said.split said.capacity
    (omega (arith, c.if-index.true)) c.put_entry-room.ensures here

pub returns-else-index-clause-halved : goal.returns-else-index-clause-halved
returns-else-index-clause-halved g c = λ tree place p. let said = c.split_node-right.ensures in let at = site p (c.args.key, c.args.value) in
    let first = c.first_key.ensures in let left = left_count at _ (omega arith) _ c.requires.full said.node said.used said.split said.capacity in
    late_halves at _ (omega arith) _ c.requires.full said.node said.used said.split said.capacity c.if-index.false c.first_key.result
    (ap (λ z. get_or c.args.self.now.entry 0 0 - z) left) c.put_entry-room-else-index.ensures (λ none. first.front (omega arith))
    (λ some. first.behind (omega arith)) (goes false (omega arith) (omega arith) refl)
