use Rattle.bforest_trees.proofs.unions.Fronts.{compared-both, compared-first}
use Rattle.bforest_trees.proofs.merge.order_of.Goals as goal
use Rattle.std.proofs.Common.{rules}

pub key-requires-then-has_next : goal.key-requires-then-has_next
key-requires-then-has_next g c = (search rules, (c.has_next.ensures.entered c.if-has_next.true).within)

pub returns-then-has_next : goal.returns-then-has_next
returns-then-has_next g c =
    compared-both c.args.trees.now (g.C.Comparator.order c.args.comp.now) c.args.first.now c.args.second.now c.requires.first c.requires.holds c.has_next.new.self
    (c.has_next.ensures.entered c.if-has_next.true) c.key.result c.key-then-has_next.result c.key.ensures.key c.key-then-has_next.ensures.key c.cmp.result c.cmp.ensures

pub returns-else-has_next : goal.returns-else-has_next
returns-else-has_next g c =
    compared-first c.args.trees.now (g.C.Comparator.order c.args.comp.now) c.args.first.now c.args.second.now c.requires.first c.requires.holds c.has_next.new.self
    c.requires.second (c.has_next.ensures.none c.if-has_next.false) (c.has_next.ensures.same c.if-has_next.false)
