use Rattle.bforest_core.proofs.{Words.{rules, arith}, walks.Following.{turn-beside, turn-done, turn-down, turn-end, turn-high, turn-more, turn-way}}
use Rattle.bforest_core.proofs.{walks.OnLevel.{enter-asks, enter-at, said-some, stands-low}, walks.Branches.{branch-asks, branch-low}}
use Rattle.bforest_core.proofs.spot.far.Goals as goal

pub loop-here-init : goal.loop-here-init
loop-here-init g c = rw c.in_ok-here.was at c.turn.ensures.some

pub entered_at-index-requires : goal.entered_at-index-requires
entered_at-index-requires g c = let t = c.loop-here.invariant in let some = turn-more t c.loop-here-test.true in let e = turn-end t some in
    (search rules, enter-asks (omega arith) e.way.leads (turn-beside t some) (turn-way e.way some c.requires.over))

pub below-here-requires : goal.below-here-requires
below-here-requires g c =
    let t = c.loop-here.invariant in let some = turn-more t c.loop-here-test.true in let e = turn-end t some in let way = turn-way e.way some c.requires.over in
    let at = enter-at (omega arith) e.way.leads c.args.on e.slot_is e.none (turn-beside t some) c.entered_at-index.ensures.at way in
    let low = stands-low (omega arith) e.way.leads way at (turn-high e.way some c.requires.low) in
    record { code = low.0; height = low.1; index = branch-low at.branch }

pub child-node-requires : goal.child-node-requires
child-node-requires g c =
    let t = c.loop-here.invariant in let some = turn-more t c.loop-here-test.true in let e = turn-end t some in let way = turn-way e.way some c.requires.over in
    (search rules, branch-asks (enter-at (omega arith) e.way.leads c.args.on e.slot_is e.none (turn-beside t some) c.entered_at-index.ensures.at way).branch)

pub loop-here-preserved : goal.loop-here-preserved
loop-here-preserved g c = let t = c.loop-here.invariant in let some = turn-more t c.loop-here-test.true in let e = turn-end t some in turn-down t some
    (said-some (omega arith) e.way.leads (enter-at (omega arith) e.way.leads c.args.on e.slot_is e.none (turn-beside t some) c.entered_at-index.ensures.at)
    (search rules) c.child-node.ensures)
    c.below-here.ensures.height

pub returns : goal.returns
returns g c = record { beside = turn-done c.loop-here.invariant c.loop-here-test.false }
