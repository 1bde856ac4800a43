use Rattle.std.proofs.Common.{refl, rules}
use Rattle.bforest_trees.proofs.ranges.Beside.{closed-prev, closed-start, entered-prev, gap, met-back}
use Rattle.bforest_trees.proofs.trees.range.Ends.enter_prev.Goals.{in-Some+else-not-is_front, in_default}
use Rattle.bforest_trees.proofs.trees.range.Ends.enter_prev.Goals as goal

pub prev_leaf-requires : goal.prev_leaf-requires
prev_leaf-requires g c = (search rules, (c.requires.union, gap c.requires.range c.requires.more))

pub stop_in-requires : goal.stop_in-requires
stop_in-requires g c = let found = c.in-Some.ensures.some in (search rules, (found.2.entries, found.2.slot_is))

pub returns-then-not-is_front : goal.returns-then-not-is_front
returns-then-not-is_front g c =
    let r = c.requires in
    let found = c.in-Some.ensures.some in
    let b = entered-prev r.range r.more found.0 found.1 found.2 (c.is_front.ensures.no c.if-not-is_front.true) (c.stop_in.ensures.keys found.2.entries found.2.slot_is) (c.stop_in.ensures.vals found.2.entries found.2.slot_is) c.stop_in.ensures.rest r.taken in
    record { left = b.left; range = b.range; some = b.some }

pub returns : goal.returns
returns g c =
    let r = c.requires in
    let b = met-back r.range r.more (elim c.match-prev_leaf.branch [
      | in-Some+else-not-is_front w ↦ (let found = w.in-Some.ensures.some in let yes = w.is_front.ensures.yes w.if-not-is_front.false in closed-prev r.range r.more found.0 found.1 yes.0 yes.1)
      | in_default w ↦ closed-start r.range r.more (w.in_default.ensures.none refl)
    ]) r.taken in
    record { left = b.left; range = b.range; some = b.some }
