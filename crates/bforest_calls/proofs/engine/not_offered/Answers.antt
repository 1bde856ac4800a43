use Rattle.bforest_calls.proofs.Comparing.{step-lacking}
use Rattle.bforest_calls.proofs.engine.not_offered.Goals as goal
use Rattle.bforest_calls.specs.Machine.{State}
use Rattle.std.proofs.Common.{false, map}

pub returns : goal.returns
returns g c =
    let t = g.T.Collection in
    λ trees. (let state : State g.row.K.Denot g.row.V.Denot = record { forest = trees; handles = t.numbers c.args.handles.now } in
    step-lacking t.most false (map g.C.Comparator.order c.args.comps.now) c.args.h c.args.c state c.lacks.result state c.args.call.now c.requires.of_maps (c.lacks.ensures trees))
