use Rattle.bforest_core.proofs.{Words.{refl, true, rules, slice_get_within}, walks.CodesDown.{end-of, near-here, root-held, root-under}, walks.Reading.not_so}
use Rattle.bforest_core.proofs.spot.Spot.first.Goals as goal

pub node-requires : goal.node-requires
node-requires g c = let held = root-held c.requires.union c.args.root c.requires.root in
    (search rules, (search rules, slice_get_within c.args.pool.now.nodes c.args.root held.0 held.1))

pub returns-then-not-is_inner : goal.returns-then-not-is_inner
returns-then-not-is_inner g c = let r = end-of c.requires.union c.requires.root c.root.ensures.code c.root.ensures.height true
    (near-here c.requires.union.1.capacity c.node.ensures.value (not_so c.if-not-is_inner.true c.is_inner.ensures.inner) c.root.result true) in
    record { spot = r.0; leaf = r.1 }

pub end_below-requires : goal.end_below-requires
end_below-requires g c = (search rules, (c.requires.union.1.capacity, root-under c.requires.union c.requires.root c.root-2.ensures.code c.root-2.ensures.height refl))

pub returns : goal.returns
returns g c = let r = end-of c.requires.union c.requires.root c.root-2.ensures.code c.root-2.ensures.height true c.end_below.ensures.end in
    record { spot = r.0; leaf = r.1 }
