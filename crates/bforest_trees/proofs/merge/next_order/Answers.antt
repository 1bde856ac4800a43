use Rattle.bforest_trees.proofs.unions.Fronts.{compared-entered, compared-none, compared-second}
use Rattle.bforest_trees.proofs.merge.next_order.Goals as goal
use Rattle.std.proofs.Common.{Some, rules}

pub order_of-requires : goal.order_of-requires
order_of-requires g c =
    let e = c.has_next.ensures.entered c.if-has_next.true in
    (search rules, (search rules, (e.reader_is, (c.requires.second, record { within = e.within; same = e.same }))))

pub returns-then-has_next : goal.returns-then-has_next
returns-then-has_next g c =
    compared-entered c.args.trees.now (g.C.Comparator.order c.args.comp.now) c.args.first.now c.args.second.now c.requires.first c.has_next.new.self
    (c.has_next.ensures.entered c.if-has_next.true) (Some c.order_of.result) c.order_of.new.second c.order_of.ensures

pub returns-then-has_next-2 : goal.returns-then-has_next-2
returns-then-has_next-2 g c =
    compared-second c.args.trees.now (g.C.Comparator.order c.args.comp.now) c.args.first.now c.args.second.now c.requires.first c.has_next.new.self
    (c.has_next.ensures.none c.if-has_next.false) (c.has_next.ensures.same c.if-has_next.false) c.has_next-2.new.self (c.has_next-2.ensures.entered c.if-has_next-2.true)

pub returns-else-has_next-2 : goal.returns-else-has_next-2
returns-else-has_next-2 g c =
    compared-none c.args.trees.now (g.C.Comparator.order c.args.comp.now) c.args.first.now c.args.second.now c.requires.first c.has_next.new.self
    (c.has_next.ensures.none c.if-has_next.false) (c.has_next.ensures.same c.if-has_next.false) c.has_next-2.new.self c.requires.second
    (c.has_next-2.ensures.none c.if-has_next-2.false) (c.has_next-2.ensures.same c.if-has_next-2.false)
