use Rattle.bforest_trees.proofs.unions.Fronts.{turn}
use Rattle.bforest_trees.proofs.unions.Merging.{front-none, seeking-end, seeking-new, seeking-old, steps-less}
use Rattle.bforest_trees.proofs.unions.New.{not-returned, returned, seeking-more}
use Rattle.bforest_trees.proofs.trees.Trees.new_entries.Goals as goal
use Rattle.std.proofs.Common.{[], refl, rules, sym, ◌∙◌}

pub loop-order-init : goal.loop-order-init
loop-order-init g c = (
  c.new-first.ensures.reader,
  c.new-second.ensures.reader,
  rw (c.new-first.ensures.left, c.new-second.ensures.left) (record { up = c.requires.searchable.increasing; others_up = c.requires.searchable.other_increasing; seen = []; new_is = refl; whole = refl }),
)

pub next_order-requires : goal.next_order-requires
next_order-requires g c = (search rules, (search rules, (c.loop-order.invariant.0, c.loop-order.invariant.1)))

pub loop-order-smaller : goal.loop-order-smaller
loop-order-smaller g c =
    steps-less (g.C.Comparator.order c.args.comp.now) _ _ _ _ _ _ (turn c.args.self.now c.in-Some.is c.next_order.ensures c.take_new.ensures.taken).off

pub loop-order-smaller-in_default-new : goal.loop-order-smaller-in_default-new
loop-order-smaller-in_default-new g c =
    steps-less (g.C.Comparator.order c.args.comp.now) _ _ _ _ _ _ (turn c.args.self.now c.in-Some.is c.next_order.ensures c.take_new.ensures.taken).off

pub loop-order-preserved : goal.loop-order-preserved
loop-order-preserved g c =
    let t = turn c.args.self.now c.in-Some.is c.next_order.ensures c.take_new.ensures.taken in
    let told = not-returned _ _ (sym c.in_default-take_new.is ∙ c.take_new.ensures.found_is) in
    (t.reader, t.second_reader, seeking-old _ (g.met.C.Comparator.total c.args.comp.now) c.in-Some.order _ _ _ t.front_is t.off c.loop-order.invariant.2 told)

pub loop-order-preserved-in_default-new : goal.loop-order-preserved-in_default-new
loop-order-preserved-in_default-new g c =
    let t = turn c.args.self.now c.in-Some.is c.next_order.ensures c.take_new.ensures.taken in
    let told = returned _ _ _ (sym c.in-Some-take_new.is ∙ c.take_new.ensures.found_is) in
    (t.reader, t.second_reader, seeking-new _ (g.met.C.Comparator.total c.args.comp.now) c.in-Some.order _ _ _ t.front_is t.off c.loop-order.invariant.2 told.0 (λ seen is. rw told.1 (c.with-new.ensures seen is)))

pub returns-in-More : goal.returns-in-More
returns-in-More g c =
    let t = turn c.args.self.now c.in-Some.is c.next_order.ensures c.take_new.ensures.taken in
    let told = returned _ _ _ (sym c.in-Some-take_new.is ∙ c.take_new.ensures.found_is) in
    let seeks = seeking-new _ (g.met.C.Comparator.total c.args.comp.now) c.in-Some.order _ _ _ t.front_is t.off c.loop-order.invariant.2 told.0 (λ seen is. rw told.1 (c.with-new.ensures seen is)) in
    record { new = seeking-more seeks c.in-More.is }

pub returns : goal.returns
returns g c = let cmp = g.C.Comparator.order c.args.comp.now in
    record { new = seeking-end cmp (front-none cmp _ _ (sym c.next_order.ensures.order_is ∙ c.in_default.is)) c.loop-order.invariant.2 }
