use Rattle.bforest_trees.proofs.keep.find_onwards.Goals as goal
use Rattle.bforest_trees.proofs.unions.Keeping.{nears-end, nears-here, nears-next, nears-shorter, on-when}
use Rattle.std.proofs.Common.{rules}

pub loop-here-init : goal.loop-here-init
loop-here-init g c = λ root s. s

pub returns-then-not-is_lt : goal.returns-then-not-is_lt
returns-then-not-is_lt g c = record {
  reached = λ root s. nears-here (c.loop-here.invariant root s) c.in-Some.is (g.met.C.Comparator.total c.args.comp.now) c.cmp-order.ensures c.is_lt.ensures c.if-not-is_lt.true c.is_eq.ensures;
}

pub next-requires : goal.next-requires
next-requires g c = (search rules, (search rules, (c.requires.union, on-when (c.loop-here.invariant c.requires.nears.0 c.requires.nears.1).at)))

pub loop-here-smaller : goal.loop-here-smaller
loop-here-smaller g c = nears-shorter (c.loop-here.invariant c.requires.nears.0 c.requires.nears.1) c.in-Some.is c.next.ensures.stands c.requires.union

pub loop-here-preserved : goal.loop-here-preserved
loop-here-preserved g c = λ root s.
    nears-next (c.loop-here.invariant root s) c.in-Some.is c.next.ensures.stands c.next.ensures.value (g.met.C.Comparator.total c.args.comp.now) c.cmp-order.ensures c.is_lt.ensures c.if-not-is_lt.false

pub returns : goal.returns
returns g c = record {
  reached = λ root s. nears-end (c.loop-here.invariant root s) (g.met.C.Comparator.total c.args.comp.now) c.in_default.is;
}
