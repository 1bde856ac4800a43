use Rattle.std.proofs.Common.{rules}
use Rattle.bforest_trees.proofs.ranges.Narrowing.{both-narrowed, hold-low, hold-narrowed, stop-low}
use Rattle.bforest_trees.proofs.trees.range.Ends.start_and_stop.Goals as goal

pub hold-requires : goal.hold-requires
hold-requires g c =
    let s = c.find_both-spot.ensures.first in
    let from = c.place-from.ensures.place s.leaf.entries s.leaf.slot_is in
    let to = c.place-to.ensures.place s.leaf.entries s.leaf.slot_is in
    (search rules, (s.leaf.entries, s.leaf.slot_is, hold-low c.args.pool.now c.args.root c.requires.fresh (g.met.C.Comparator.total c.args.comp.now) c.requires.increasing c.args.start c.args.stop s from to (c.find_both-spot.ensures.same c.in-None.is)))

pub returns-in-None : goal.returns-in-None
returns-in-None g c =
    let s = c.find_both-spot.ensures.first in
    let from = c.place-from.ensures.place s.leaf.entries s.leaf.slot_is in
    let to = c.place-to.ensures.place s.leaf.entries s.leaf.slot_is in
    let n = hold-narrowed c.args.pool.now c.args.root c.requires.fresh (g.met.C.Comparator.total c.args.comp.now) c.requires.increasing c.args.start c.args.stop s from to (c.find_both-spot.ensures.same c.in-None.is)
    (c.hold.ensures.keys s.leaf.entries s.leaf.slot_is) (c.hold.ensures.vals s.leaf.entries s.leaf.slot_is) c.hold.ensures.rest in
    record { left = n.left; range = n.range }

pub stop_at-requires : goal.stop_at-requires
stop_at-requires g c =
    let t = (rw c.in-Some.is at c.find_both-spot.ensures.other).0 in
    (search rules, (t.leaf.entries, t.leaf.slot_is, stop-low c.args.pool.now c.args.root c.requires.fresh (g.met.C.Comparator.total c.args.comp.now) c.requires.increasing c.args.stop t.spot_at t.search (c.place-to-in-Some.ensures.place t.leaf.entries t.leaf.slot_is)))

pub returns-in-Some : goal.returns-in-Some
returns-in-Some g c =
    let s = c.find_both-spot.ensures.first in
    let w = rw c.in-Some.is at c.find_both-spot.ensures.other in
    let t = w.0 in
    let from = c.place-from.ensures.place s.leaf.entries s.leaf.slot_is in
    let to = c.place-to-in-Some.ensures.place t.leaf.entries t.leaf.slot_is in
    let n = both-narrowed c.args.pool.now c.args.root c.requires.fresh (g.met.C.Comparator.total c.args.comp.now) c.requires.increasing c.args.start c.args.stop s from t to w.2 w.1
    (c.start_at.ensures.keys s.leaf.entries s.leaf.slot_is) (c.start_at.ensures.vals s.leaf.entries s.leaf.slot_is) c.start_at.ensures.rest
    (c.stop_at.ensures.keys t.leaf.entries t.leaf.slot_is) (c.stop_at.ensures.vals t.leaf.entries t.leaf.slot_is) c.stop_at.ensures.rest in
    record { left = n.left; range = n.range }
