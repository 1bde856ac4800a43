use Rattle.bforest_core.proofs.Words.{◌+◌, ◌*◌, arith, subst}
use Rattle.bforest_core.proofs.union.Needs.{Planning, planning-first, planning-last, planning-low, planning-more, planning-next, planning-some}
use Rattle.bforest_core.proofs.build.plan_for.Goals as goal

pub loop-room-init : goal.loop-room-init
loop-room-init c = planning-first c.args.capacity c.args.entries c.requires.capacity.least c.requires.capacity.most c.requires.some c.requires.few c.div_ceil-nodes.ensures

pub overflow_add-level : goal.overflow_add-level
overflow_add-level c = omega (arith, planning-low c.args.capacity c.args.entries c.requires.capacity.least c.requires.capacity.most c.requires.some c.requires.few c.loop-room.invariant)

pub loop-room-preserved : goal.loop-room-preserved
loop-room-preserved c = subst (λ z. Planning c.args.capacity c.args.entries (c.loop-room.nodes + c.div_ceil-nodes-in-loop-room.result) z (c.loop-room.room * 8)) (omega arith) (planning-next c.args.capacity c.args.entries c.requires.capacity.least c.requires.capacity.most c.requires.some c.requires.few c.loop-room.invariant (omega (arith, c.loop-room-test.true)) c.div_ceil-nodes-in-loop-room.ensures)

pub loop-room-smaller : goal.loop-room-smaller
loop-room-smaller c = omega (arith, c.loop-room-test.true, planning-some c.args.capacity c.args.entries c.requires.capacity.least c.requires.capacity.most c.requires.some c.requires.few c.loop-room.invariant)

pub returns : goal.returns
returns c = planning-last c.args.capacity c.args.entries c.requires.capacity.least c.requires.capacity.most c.requires.some c.requires.few c.loop-room.invariant (omega (arith, c.loop-room-test.false))

pub div_ceil-nodes-requires-in-loop-room : goal.div_ceil-nodes-requires-in-loop-room
div_ceil-nodes-requires-in-loop-room c = omega (arith, planning-some c.args.capacity c.args.entries c.requires.capacity.least c.requires.capacity.most c.requires.some c.requires.few c.loop-room.invariant)

pub overflow_add-nodes : goal.overflow_add-nodes
overflow_add-nodes c = omega (arith, c.loop-room.invariant.nodes_few, planning-low c.args.capacity c.args.entries c.requires.capacity.least c.requires.capacity.most c.requires.some c.requires.few c.loop-room.invariant, planning-more c.args.capacity c.args.entries c.requires.capacity.least c.requires.capacity.most c.requires.some c.requires.few c.loop-room.invariant c.div_ceil-nodes-in-loop-room.ensures)
