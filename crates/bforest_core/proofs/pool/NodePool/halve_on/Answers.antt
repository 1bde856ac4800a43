use Rattle.bforest_core.proofs.{Words.{rules}, insertion.OnWay.{early-asks, early-halves, halve-asks, late-asks, late-halves, late-within}}
use Rattle.bforest_core.proofs.pool.NodePool.halve_on.Goals as goal

pub split_node-right-requires : goal.split_node-right-requires
split_node-right-requires g c = (search rules, halve-asks c.requires.placed.2 (c.args.key, c.args.value) c.requires.full c.requires.room)

pub put_entry-room-requires : goal.put_entry-room-requires
put_entry-room-requires g c = let said = c.split_node-right.ensures in
    (search rules, early-asks c.requires.placed.2 (c.args.key, c.args.value) c.requires.full said.node said.used said.split said.capacity c.if-index.true)

pub returns-then-index : goal.returns-then-index
returns-then-index g c = λ tree place w. let said = c.split_node-right.ensures in
    early-halves w (c.args.key, c.args.value) c.requires.full said.node said.used said.split said.capacity c.if-index.true c.put_entry-room.ensures

pub overflow_sub-behind : goal.overflow_sub-behind
overflow_sub-behind g c = let said = c.split_node-right.ensures in
    late-within c.requires.placed.2 (c.args.key, c.args.value) c.requires.full said.node said.used said.split said.capacity c.if-index.false

pub put_entry-room-requires-2 : goal.put_entry-room-requires-2
put_entry-room-requires-2 g c = let said = c.split_node-right.ensures in
    (search rules, late-asks c.requires.placed.2 (c.args.key, c.args.value) c.requires.full said.node said.used said.split said.capacity c.if-index.false)

pub returns : goal.returns
returns g c = λ tree place w. let said = c.split_node-right.ensures in let first = c.first_key.ensures in
    late-halves w (c.args.key, c.args.value) c.requires.full said.node said.used said.split said.capacity c.if-index.false c.put_entry-room-2.ensures first.front first.behind
