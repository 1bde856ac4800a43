use Rattle.bforest_core.proofs.{Words.{StandsOn, rules, subst, arith}, walks.Nearby.here-entry}
use Rattle.bforest_core.proofs.path.Path.first.Goals as goal

pub entry_here-requires : goal.entry_here-requires
entry_here-requires g c = let leaf = c.first_leaf.ensures.stands in (search rules, (search rules, (leaf.0, leaf.1.leaf, leaf.1.within)))

pub returns : goal.returns
returns g c = let on = subst (λ z. StandsOn c.args.pool.now c.args.root c.first_leaf.new.self z) (omega arith) c.first_leaf.ensures.stands.1.on in
    record { value = here-entry c.requires.union on c.entry_here.ensures; stands = on }
