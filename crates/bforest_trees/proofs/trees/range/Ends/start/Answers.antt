use Rattle.bforest_trees.proofs.ranges.Narrowing.{start-narrowed}
use Rattle.bforest_trees.proofs.trees.range.Ends.start.Goals as goal

pub returns : goal.returns
returns g c =
    let r = c.requires in
    let s = c.find.ensures.leaf in
    let n = start-narrowed c.args.pool.now c.args.root r.fresh (g.met.C.Comparator.total c.args.comp.now) r.increasing c.args.start c.find.ensures.spot s (c.place-index.ensures.place s.leaf.entries s.leaf.slot_is) (c.start_at.ensures.keys s.leaf.entries s.leaf.slot_is) (c.start_at.ensures.vals s.leaf.entries s.leaf.slot_is) c.start_at.ensures.rest in
    record { left = n.left; range = n.range }
