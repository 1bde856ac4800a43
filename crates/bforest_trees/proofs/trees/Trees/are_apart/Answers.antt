use Rattle.bforest_trees.proofs.unions.Finding.{apart-found, apart-next}
use Rattle.bforest_trees.proofs.unions.Merging.{comparing-end}
use Rattle.bforest_trees.proofs.trees.Trees.are_apart.Goals as goal
use Rattle.std.proofs.Common.{ap, arith, length, refl, rules, sym}

pub loop-entry-init : goal.loop-entry-init
loop-entry-init g c = (
  c.new-keys.ensures.reader,
  c.new-others.ensures.reader,
  rw (c.new-keys.ensures.left, c.new-others.ensures.left) (record { up = c.requires.increasing; others_up = c.requires.other_increasing; same = refl }),
)

pub next-requires : goal.next-requires
next-requires g c = (search rules, (search rules, c.loop-entry.invariant.0))

pub finds-requires : goal.finds-requires
finds-requires g c = (search rules, (search rules, (c.loop-entry.invariant.1, c.loop-entry.invariant.2.others_up)))

pub returns-then-finds : goal.returns-then-finds
returns-then-finds g c = record { apart = sym (apart-found (g.met.C.Comparator.total c.args.comp.now) c.in-Some.ensures.steps c.finds.ensures c.loop-entry.invariant.2 c.if-finds.true) }

pub loop-entry-smaller : goal.loop-entry-smaller
loop-entry-smaller g c = omega (arith, ap length c.in-Some.ensures.steps)

pub loop-entry-preserved : goal.loop-entry-preserved
loop-entry-preserved g c = (
  c.in-Some.ensures.reader,
  c.finds.ensures.passes.reader_is,
  apart-next (g.met.C.Comparator.total c.args.comp.now) c.in-Some.ensures.steps c.finds.ensures c.loop-entry.invariant.2 c.if-finds.false,
)

pub returns : goal.returns
returns g c = record { apart = sym (comparing-end (g.C.Comparator.order c.args.comp.now) c.loop-entry.invariant.2 (rw c.in_default.is at c.next.ensures.steps).0) }
