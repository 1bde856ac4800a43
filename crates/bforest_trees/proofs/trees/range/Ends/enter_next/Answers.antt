use Rattle.std.proofs.Common.{refl, rules}
use Rattle.bforest_trees.proofs.ranges.Beside.{closed-end, closed-next, entered-next, gap, met-front}
use Rattle.bforest_trees.proofs.trees.range.Ends.enter_next.Goals.{in-Some+else-not-is_back, in_default}
use Rattle.bforest_trees.proofs.trees.range.Ends.enter_next.Goals as goal

pub next_leaf-requires : goal.next_leaf-requires
next_leaf-requires g c = (search rules, (c.requires.union, gap c.requires.range c.requires.more))

pub start_at-requires : goal.start_at-requires
start_at-requires g c = let found = c.in-Some.ensures.some in (search rules, (found.1.entries, found.1.slot_is))

pub returns-then-not-is_back : goal.returns-then-not-is_back
returns-then-not-is_back g c =
    let r = c.requires in
    let found = c.in-Some.ensures.some in
    let b = entered-next r.range r.more found.0 found.1 (c.is_back.ensures.no c.if-not-is_back.true) (c.start_at.ensures.keys found.1.entries found.1.slot_is) (c.start_at.ensures.vals found.1.entries found.1.slot_is) c.start_at.ensures.rest r.taken in
    record { left = b.left; range = b.range; some = b.some }

pub returns : goal.returns
returns g c =
    let r = c.requires in
    let e = c.meet.ensures in
    let b = met-front r.range r.more (elim c.match-next_leaf.branch [
      | in-Some+else-not-is_back w ↦ (let yes = w.is_back.ensures.yes w.if-not-is_back.false in closed-next r.range r.more w.in-Some.ensures.some.0 yes.0 yes.1)
      | in_default w ↦ closed-end r.range r.more (w.in_default.ensures.none refl)
    ]) r.taken e.keys e.vals e.none e.index e.one in
    record { left = b.left; range = b.range; some = b.some }
