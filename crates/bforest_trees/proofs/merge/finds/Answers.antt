use Rattle.bforest_trees.proofs.merge.finds.Goals as goal
use Rattle.bforest_trees.proofs.unions.Finding.{finds-end, finds-equal, finds-less, finds-next, finds-shorter}
use Rattle.std.proofs.Common.{refl, rules}

pub loop-key-init : goal.loop-key-init
loop-key-init g c = record { reader_is = c.requires.reader; up = c.requires.increasing; same = λ k ahead. refl }

pub has_next-requires : goal.has_next-requires
has_next-requires g c = (search rules, (search rules, c.loop-key.invariant.reader_is))

pub key-requires : goal.key-requires
key-requires g c = (search rules, (c.has_next.ensures.entered c.loop-key-test.true).within)

pub returns-then-is_eq : goal.returns-then-is_eq
returns-then-is_eq g c = finds-equal (g.met.C.Comparator.total c.args.comp.now) c.loop-key.invariant (c.has_next.ensures.entered c.loop-key-test.true) c.key.ensures.key c.cmp-order.ensures c.is_eq.ensures c.if-is_eq.true

pub returns-then-is_lt : goal.returns-then-is_lt
returns-then-is_lt g c = finds-less (g.met.C.Comparator.total c.args.comp.now) c.loop-key.invariant (c.has_next.ensures.entered c.loop-key-test.true) c.key.ensures.key c.cmp-order.ensures c.is_lt.ensures c.if-is_lt.true

pub pass-requires : goal.pass-requires
pass-requires g c = (search rules, (c.has_next.ensures.entered c.loop-key-test.true).within)

pub loop-key-smaller : goal.loop-key-smaller
loop-key-smaller g c = finds-shorter (g.met.C.Comparator.total c.args.comp.now) c.loop-key.invariant (c.has_next.ensures.entered c.loop-key-test.true) c.key.ensures.key c.cmp-order.ensures c.pass.ensures.rest

pub loop-key-preserved : goal.loop-key-preserved
loop-key-preserved g c =
    finds-next (g.met.C.Comparator.total c.args.comp.now) c.loop-key.invariant (c.has_next.ensures.entered c.loop-key-test.true) c.key.ensures.key c.cmp-order.ensures c.pass.ensures.rest
    c.is_eq.ensures c.if-is_eq.false c.is_lt.ensures c.if-is_lt.false

pub returns : goal.returns
returns g c = finds-end (g.met.C.Comparator.total c.args.comp.now) c.loop-key.invariant (c.has_next.ensures.none c.loop-key-test.false) (c.has_next.ensures.same c.loop-key-test.false)
