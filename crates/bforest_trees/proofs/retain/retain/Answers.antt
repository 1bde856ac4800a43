use Rattle.bforest_trees.proofs.Sifting.{sifting-first, sifting-first-read, sifting-last, sifting-left, sifting-may, sifting-next, sifting-none, sifting-read, sifting-stands}
use Rattle.bforest_trees.proofs.retain.retain.Goals as goal
use Rattle.bforest_trees.specs.Layout.{entries_from}
use Rattle.std.proofs.Common.{arith, length, refl, rules, sym, ◌<◌, ◌∙◌}

pub loop-here-init : goal.loop-here-init
loop-here-init g c = (
  sifting-first c.requires.union c.first.ensures.stands c.requires.callable,
  sifting-first-read c.requires.union c.first.ensures.stands c.requires.callable c.first.ensures.value,
)

pub retain_step-requires : goal.retain_step-requires
retain_step-requires g c = let s = c.loop-here.invariant.0 in let here = sym c.in-Some.is ∙ c.loop-here.invariant.1 in (
  search rules,
  (search rules, ((s.changes.union, ((s.place, sifting-stands s here), sifting-may s here)))),
)

pub returns-in_err-step-clause-ended : goal.returns-in_err-step-clause-ended
returns-in_err-step-clause-ended g c = λ none. let s = c.loop-here.invariant.0 in let here = sym c.in-Some.is ∙ c.loop-here.invariant.1 in
    sifting-none s here (c.in_err-step.ensures.ended refl s.place (sifting-stands s here))

pub loop-here-smaller : goal.loop-here-smaller
loop-here-smaller g c =
    let s = c.loop-here.invariant.0 in let here = sym c.in-Some.is ∙ c.loop-here.invariant.1 in
    let next = sifting-next s here (c.in_ok-step.ensures.stepped s.place (sifting-stands s here)) in
    let before = sifting-left s in
    let after = sifting-left next.0 in
    let less : length (entries_from c.retain_step.new.pool c.retain_step.new.path) < length (entries_from c.loop-here.pool c.loop-here.path) = omega (arith, before, after, next.1) in
    less

pub loop-here-preserved : goal.loop-here-preserved
loop-here-preserved g c =
    let s = c.loop-here.invariant.0 in let here = sym c.in-Some.is ∙ c.loop-here.invariant.1 in
    let t = c.in_ok-step.ensures.stepped s.place (sifting-stands s here) in
    ((sifting-next s here t).0, sifting-read s here t (c.in_ok-step.ensures.here s.place (sifting-stands s here)))

pub returns-clause-retained : goal.returns-clause-retained
returns-clause-retained g c = sifting-last c.loop-here.invariant.0 (sym c.in_default.is ∙ c.loop-here.invariant.1)
