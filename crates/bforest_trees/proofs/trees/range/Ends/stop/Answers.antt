use Rattle.std.proofs.Common.{rules}
use Rattle.bforest_trees.proofs.ranges.Narrowing.{stop-low, stop-narrowed}
use Rattle.bforest_trees.proofs.trees.range.Ends.stop.Goals as goal

pub stop_at-requires : goal.stop_at-requires
stop_at-requires g c =
    let r = c.requires in
    let t = c.find.ensures.leaf in
    (search rules, (t.leaf.entries, t.leaf.slot_is, stop-low c.args.pool.now c.args.root r.fresh (g.met.C.Comparator.total c.args.comp.now) r.increasing c.args.stop c.find.ensures.spot t (c.place-index.ensures.place t.leaf.entries t.leaf.slot_is)))

pub returns : goal.returns
returns g c =
    let r = c.requires in
    let t = c.find.ensures.leaf in
    let n = stop-narrowed c.args.pool.now c.args.root r.fresh (g.met.C.Comparator.total c.args.comp.now) r.increasing c.args.stop c.find.ensures.spot t (c.place-index.ensures.place t.leaf.entries t.leaf.slot_is) (c.stop_at.ensures.keys t.leaf.entries t.leaf.slot_is) (c.stop_at.ensures.vals t.leaf.entries t.leaf.slot_is) c.stop_at.ensures.rest in
    record { left = n.left; range = n.range }
