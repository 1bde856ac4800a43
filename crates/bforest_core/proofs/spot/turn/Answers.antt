use Rattle.bforest_core.proofs.{Words.{rules, arith}, walks.Following.{begun, turn-high, turn-way, turned, turning-ends, turning-none, turning-on}}
use Rattle.bforest_core.proofs.{walks.OnLevel.{code-low-here, index-asked, none-said}, walks.Codes.{root-alone}}
use Rattle.bforest_core.proofs.spot.turn.Goals as goal

pub loop-left-init : goal.loop-left-init
loop-left-init g c =
    let r = c.root-here in (begun c.requires.over r.result r.ensures.code r.ensures.height, turning-none (root-alone r.result r.ensures.height c.args.on))

pub lower-found-requires : goal.lower-found-requires
lower-found-requires g c = let f = c.loop-left.invariant.0 in let some = c.loop-left-test.true in
    (search rules, (turn-high f some c.requires.low, (omega arith, (c.args.root, turn-way f some c.requires.over, f.leads))))

pub below-here-requires-clause-code : goal.below-here-requires-clause-code
below-here-requires-clause-code g c = let f = c.loop-left.invariant.0 in
    code-low-here (omega arith) f.leads (turn-way f c.loop-left-test.true c.requires.over) (turn-high f c.loop-left-test.true c.requires.low)

pub child-node-requires : goal.child-node-requires
child-node-requires g c =
    let f = c.loop-left.invariant.0 in (search rules, index-asked (omega arith) f.leads (turn-way f c.loop-left-test.true c.requires.over))

pub loop-left-preserved : goal.loop-left-preserved
loop-left-preserved g c = let i = c.loop-left.invariant in (
  turned i.0 c.loop-left-test.true (search rules) c.child-node.ensures,
  turning-on i.0 c.loop-left-test.true (c.lower-found.ensures.lower c.args.root i.0.leads) i.1
      (λ content slot_is none end. none-said (omega arith) i.0.leads c.args.on slot_is none end) (search rules),
)

pub returns : goal.returns
returns g c = let e = turning-ends c.loop-left.invariant.0 c.loop-left.invariant.1 c.loop-left-test.false in record { some = e.0; none = e.1 }
