use Rattle.bforest_core.proofs.{Words.{rules, arith}, removal.Taking.{behind, first_asks, above_asks, ahead}}
use Rattle.bforest_core.proofs.path.Path.renew_first.Goals as goal

pub returns-then-self-gt0 : goal.returns-then-self-gt0
returns-then-self-gt0 g c = λ old tree place s h. behind s h c.if-self-gt0.true

pub leaf_key-key-requires : goal.leaf_key-key-requires
leaf_key-key-requires g c = let w = c.requires.taken in
    (search rules, first_asks w.3 _ (omega arith) w.4 c.if-self-gt0.false)

pub update_separator-requires : goal.update_separator-requires
update_separator-requires g c = let w = c.requires.taken in
    search (rules, above_asks w.3 w.4 c.if-self-gt0.false)

pub returns : goal.returns
returns g c = λ old tree place s h.
    ahead s _ (omega arith) h c.if-self-gt0.false _ _ c.leaf_key-key.ensures c.update_separator.ensures
