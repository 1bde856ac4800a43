use Rattle.bforest_core.proofs.{Words.{false, refl, rules, slice_get_within}, walks.CodesDown.{end-of, near-here, root-held, root-under}, walks.Reading.not_so}
use Rattle.bforest_core.proofs.spot.Spot.last.Goals as goal

pub node-requires : goal.node-requires
node-requires g c = let held = root-held c.requires.union c.args.root c.requires.root in
    (search rules, (search rules, slice_get_within c.args.pool.now.nodes c.args.root held.0 held.1))

pub returns-else-is_inner : goal.returns-else-is_inner
returns-else-is_inner g c = let r = end-of c.requires.union c.requires.root c.root-else-is_inner.ensures.code c.root-else-is_inner.ensures.height false
    (near-here c.requires.union.1.capacity c.node.ensures.value (not_so c.if-is_inner.false c.is_inner.ensures.inner) c.root-else-is_inner.result false) in
    record { spot = r.0; leaf = r.1 }

pub end_below-requires : goal.end_below-requires
end_below-requires g c = (search rules, (c.requires.union.1.capacity, root-under c.requires.union c.requires.root c.root.ensures.code c.root.ensures.height refl))

pub returns-then-is_inner : goal.returns-then-is_inner
returns-then-is_inner g c =
    let r = end-of c.requires.union c.requires.root c.root.ensures.code c.root.ensures.height false c.end_below.ensures.end in record { spot = r.0; leaf = r.1 }
