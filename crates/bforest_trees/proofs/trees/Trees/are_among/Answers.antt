use Rattle.bforest_trees.proofs.unions.Fronts.{compared-entered, turn}
use Rattle.bforest_trees.proofs.unions.Merging.{comparing-end, comparing-next, comparing-no, steps-less}
use Rattle.bforest_trees.proofs.trees.Trees.are_among.Goals as goal
use Rattle.std.proofs.Common.{Some, refl, rules, sym, ◌∙◌}

pub loop-first-init : goal.loop-first-init
loop-first-init g c = (
  c.new-first.ensures.reader,
  c.new-second.ensures.reader,
  rw (c.new-first.ensures.left, c.new-second.ensures.left) (record { up = c.requires.increasing; others_up = c.requires.other_increasing; same = refl }),
)

pub has_next-requires : goal.has_next-requires
has_next-requires g c = (search rules, (search rules, c.loop-first.invariant.0))

pub order_of-order-requires : goal.order_of-order-requires
order_of-order-requires g c =
    let e = c.has_next.ensures.entered c.loop-first-test.true in
    (search rules, (search rules, (e.reader_is, (c.loop-first.invariant.1, record { within = e.within; same = e.same }))))

pub returns-then-is_lt : goal.returns-then-is_lt
returns-then-is_lt g c =
    let cmp = g.C.Comparator.order c.args.comp.now in
    let e = c.has_next.ensures.entered c.loop-first-test.true in
    let d = compared-entered c.args.self.now cmp c.loop-first.first c.loop-first.second c.loop-first.invariant.0 c.has_next.new.self e (Some c.order_of-order.result) c.order_of-order.new.second c.order_of-order.ensures in
    record { among = sym (comparing-no cmp (g.met.C.Comparator.total c.args.comp.now) c.order_of-order.result (sym d.order_is) c.loop-first.invariant.2 (sym c.is_lt.ensures ∙ c.if-is_lt.true)) }

pub loop-first-smaller : goal.loop-first-smaller
loop-first-smaller g c =
    let cmp = g.C.Comparator.order c.args.comp.now in
    let e = c.has_next.ensures.entered c.loop-first-test.true in
    let d = compared-entered c.args.self.now cmp c.loop-first.first c.loop-first.second c.loop-first.invariant.0 c.has_next.new.self e (Some c.order_of-order.result) c.order_of-order.new.second c.order_of-order.ensures in
    steps-less cmp _ _ _ _ _ _ (turn c.args.self.now refl d c.take_new.ensures.taken).off

pub loop-first-preserved : goal.loop-first-preserved
loop-first-preserved g c =
    let cmp = g.C.Comparator.order c.args.comp.now in
    let e = c.has_next.ensures.entered c.loop-first-test.true in
    let d = compared-entered c.args.self.now cmp c.loop-first.first c.loop-first.second c.loop-first.invariant.0 c.has_next.new.self e (Some c.order_of-order.result) c.order_of-order.new.second c.order_of-order.ensures in
    let t = turn c.args.self.now refl d c.take_new.ensures.taken in (
      t.reader,
      t.second_reader,
      comparing-next cmp (g.met.C.Comparator.total c.args.comp.now) c.order_of-order.result _ _ _ t.front_is t.off c.loop-first.invariant.2 (sym c.is_lt.ensures ∙ c.if-is_lt.false),
    )

pub returns : goal.returns
returns g c = record { among = sym (comparing-end (g.C.Comparator.order c.args.comp.now) c.loop-first.invariant.2 (c.has_next.ensures.none c.loop-first-test.false)) }
