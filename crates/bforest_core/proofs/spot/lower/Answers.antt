use Rattle.bforest_core.proofs.{Words.{rules, refl, inl, inr}, walks.OnLevel.{code-low-here, count-asked, said-some, side-at}}
use Rattle.bforest_core.proofs.walks.Branches.{branch-asks, branch-low}
use Rattle.bforest_core.proofs.spot.lower.Goals as goal

pub beside-requires : goal.beside-requires
beside-requires g c = let w = c.requires.way in (search rules, (c.requires.index, count-asked c.requires.index w.2 w.1))

pub below-requires : goal.below-requires
below-requires g c = let w = c.requires.way in let at = side-at c.requires.index w.2 c.args.on c.in-Some.ensures.some w.1 in record {
  code = code-low-here c.requires.index w.2 w.1 c.requires.low;
  height = c.requires.low;
  index = branch-low at.branch;
}

pub child-requires : goal.child-requires
child-requires g c = let w = c.requires.way in (search rules, branch-asks (side-at c.requires.index w.2 c.args.on c.in-Some.ensures.some w.1).branch)

pub returns-in-Some : goal.returns-in-Some
returns-in-Some g c = record {
  lower = λ root leads. inl (
    (c.below.result, c.child.result),
    refl,
    said-some c.requires.index leads (side-at c.requires.index leads c.args.on c.in-Some.ensures.some) (search rules) c.child.ensures,
    c.below.ensures.height,
  );
}

pub returns-in-None : goal.returns-in-None
returns-in-None g c = record {
  lower = λ root leads. let w = c.requires.way in let n = count-asked c.requires.index w.2 w.1 in
      inr (n.0, n.1, c.beside.ensures.none c.in-None.is n.0 n.1, refl);
}
