use Rattle.bforest_trees.proofs.keep.keep.Goals as goal
use Rattle.bforest_trees.proofs.unions.Keeping.{keeping-first, keeping-last, keeping-nears, keeping-next, keeping-none, keeping-shorter, keeping-stands}
use Rattle.std.proofs.Common.{rules}

pub loop-mine-init : goal.loop-mine-init
loop-mine-init g c = keeping-first c.requires.union c.requires.apart c.requires.increasing c.requires.other_increasing c.first.ensures.stands c.first-2.ensures.stands c.first.ensures.value c.first-2.ensures.value

pub find_onwards-requires : goal.find_onwards-requires
find_onwards-requires g c =
    (search rules, (search rules, (c.loop-mine.invariant.sift.changes.union, (c.args.other, keeping-nears c.loop-mine.invariant c.in-Some.is))))

pub keep_step-requires : goal.keep_step-requires
keep_step-requires g c =
    (search rules, (search rules, (c.loop-mine.invariant.sift.changes.union, (c.loop-mine.invariant.sift.place, keeping-stands c.loop-mine.invariant c.in-Some.is))))

pub returns-in_default-keep_step : goal.returns-in_default-keep_step
returns-in_default-keep_step g c = keeping-none c.loop-mine.invariant c.in-Some.is c.find_onwards.ensures.reached c.keep_step.ensures c.in_default-keep_step.is

pub loop-mine-smaller : goal.loop-mine-smaller
loop-mine-smaller g c = keeping-shorter c.loop-mine.invariant c.in-Some.is c.find_onwards.ensures.reached c.keep_step.ensures c.in-Some-keep_step.is

pub loop-mine-preserved : goal.loop-mine-preserved
loop-mine-preserved g c =
    keeping-next c.loop-mine.invariant c.in-Some.is c.find_onwards.ensures.reached c.keep_step.ensures c.in-Some-keep_step.is (g.met.C.Comparator.total c.args.comp.now)

pub returns : goal.returns
returns g c = keeping-last c.loop-mine.invariant c.in_default.is
